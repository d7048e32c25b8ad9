use Rattle.std.proofs.Common.{◌≡◌, ◌+◌, ◌++◌, ap, ◌∙◌, take, length}
use Rattle.link_capture_reader.proofs.FirstBytes.{kept}
use Rattle.link_capture_reader.proofs.first.keep_first.Goals as goal

pub returns-in-Ok : goal.returns-in-Ok
returns-in-Ok c =
    let ok = c.in-Ok.ensures.ok in
    let size : c.remaining_capacity.result + length c.args.first.now.items ≡ 4 = c.remaining_capacity.ensures in
    ok ∙ ap (λ n. c.args.first.now.items ++ take n c.args.bytes.now) c.min-taken.ensures ∙ kept _ _ _ size
