use Rattle.std.proofs.Common.{ap, length, arith, rules}
use Rattle.std.proofs.lemmas.Grind.{common_steps}
use Rattle.link_lines_values.proofs.Readings.{one_digit}
use Rattle.link_lines_values.proofs.digits.push_decimal.Goals as goal

pub returns-in_err-push : goal.returns-in_err-push
returns-in_err-push c =
    let size = ap length (one_digit c.args.number c.if-number-lt10.true) in
    grind (arith, common_steps, size)

pub returns-then-number-lt10 : goal.returns-then-number-lt10
returns-then-number-lt10 c =
    record { ok = grind (arith, common_steps, one_digit); memory = tt; capacity = search rules; kept = grind (arith, common_steps) }
