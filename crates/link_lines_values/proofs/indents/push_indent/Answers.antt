use Rattle.std.proofs.Common.{ap, length, arith, rules}
use Rattle.std.proofs.lemmas.Grind.{common_steps}
use Rattle.link_lines_values.proofs.Appending.{added}
use Rattle.link_lines_values.proofs.Deeper.{next_level, spaces}
use Rattle.link_lines_values.proofs.indents.push_indent.Goals as goal

pub loop-preserved : goal.loop-preserved
loop-preserved c =
    let e = c.in_ok-extend_from_slice.ensures in
    record { within = omega arith; appends = added c.extend_from_slice-in-loop.new.self _ _ c.loop.invariant.appends e.items e.capacity (next_level c.args.level c.loop.counter (omega arith)) }

pub returns-then-level-le8 : goal.returns-then-level-le8
returns-then-level-le8 c =
    let text = spaces c.args.level c.if-level-le8.true in
    let size = ap length text in
    record { ok = grind (arith, common_steps, text); memory = grind (arith, common_steps, size); capacity = search rules; kept = grind (arith, common_steps) }
