-- the first part of the header, and then the rest of it
use Rattle.std.proofs.Common.{[], ◌∷◌, arith}
use Rattle.link_capture_reader.proofs.CutFrames.{filled}
use Rattle.link_capture_reader.proofs.pieces.joined_header.Goals as goal

pub returns : goal.returns
returns c =
    let position = 0 ∷ 0 ∷ 0 ∷ 0 ∷ 0 ∷ 0 ∷ 0 ∷ 0 ∷ 0 ∷ 0 ∷ 0 ∷ 0 ∷ 0 ∷ 0 ∷ 0 ∷ 0 ∷ [] in
    filled c.args.kept.now c.args.piece.now position c.copy_from_slice.new.self c.copy_from_slice-2.new.self c.min-kept_size.result c.min-kept_size.ensures (omega (arith, c.requires)) c.copy_from_slice.ensures.after c.copy_from_slice-2.ensures.after
