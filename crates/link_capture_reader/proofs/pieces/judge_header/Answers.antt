-- the header at the start of the kept bytes followed by the piece
use Rattle.std.proofs.Common.{◌++◌, Err, sym, ap, ◌∙◌, arith, length-append}
use Rattle.netlink_packet_core_grammar.specs.Frames.{frame_length}
use Rattle.link_capture_grammar.specs.Captures.{first_frame}
use Rattle.link_capture_grammar.specs.Body.{link_body}
use Rattle.link_capture_reader.proofs.CutFrames.{header_is_allowed, header_cut, header_refused}
use Rattle.link_capture_reader.proofs.pieces.judge_header.Goals as goal

pub returns-in-Ok-clause-ok : goal.returns-in-Ok-clause-ok
returns-in-Ok-clause-ok c =
    let whole = c.args.kept.now ++ c.args.piece.now in
    let ok = c.in-Ok.ensures.ok in
    let n = ok.0 ∙ ap frame_length c.joined_header-header.ensures in
    header_is_allowed c.numbers_are_independent.ensures c.args.limit whole (omega (arith, length-append c.args.kept.now c.args.piece.now)) (omega (arith, n, ok.0, ok.2.covers_header)) (omega (arith, n, ok.1))

pub returns-in-Cut-clause-ok : goal.returns-in-Cut-clause-ok
returns-in-Cut-clause-ok c =
    let whole = c.args.kept.now ++ c.args.piece.now in
    let cut = c.frames_are_judged.ensures.header c.args.limit c.joined_header-header.result c.in-Err.kind c.in-Err.ensures.err in
    header_cut c.numbers_are_independent.ensures c.frames_are_independent.ensures c.args.limit whole (omega (arith, length-append c.args.kept.now c.args.piece.now))
    (ap (first_frame link_body c.args.limit) (sym c.joined_header-header.ensures) ∙ cut ∙ ap (λ k. Err k) c.in-Cut.is)

pub returns-in_default : goal.returns-in_default
returns-in_default c =
    let whole = c.args.kept.now ++ c.args.piece.now in
    let refused = c.frames_are_judged.ensures.header c.args.limit c.joined_header-header.result c.in-Err.kind c.in-Err.ensures.err in
    record {
      ok = tt;
      err = (c.in_default.not-Cut, header_refused c.frames_are_independent.ensures c.args.limit whole c.in-Err.kind c.in_default.not-Cut (ap (first_frame link_body c.args.limit) (sym c.joined_header-header.ensures) ∙ refused));
      of_frames = c.in-Err.ensures.of_frames;
    }
