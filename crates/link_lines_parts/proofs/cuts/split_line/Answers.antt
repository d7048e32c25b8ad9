use Rattle.std.proofs.Common.{arith}
use Rattle.std.proofs.lemmas.Bool.Decides.{nat_tests}
use Rattle.link_lines_parts.proofs.FirstParts.{lines_next}
use Rattle.link_lines_parts.proofs.cuts.split_line.Goals as goal

pub returns-clause-some : goal.returns-clause-some
returns-clause-some c =
    let e = lines_next c.args.text.now c.min-end.result (grind (arith, nat_tests)) (omega arith) in
    cc (e, c.split_at.ensures.front, c.split_at.ensures.back)
