use Rattle.std.proofs.Common.{◌≡◌, ◌≤◌, false, length, drop}
use Rattle.std.specs.Fmt.{digits, digits_onto}
use Rattle.link_lines_values.proofs.digits.write_hex.Given as goal

abbrev pub invariant-loop-start : goal.invariant-loop-start
invariant-loop-start l = (l.start ≤ 64) × (length l.out ≡ 64) × (digits_onto l.start 16 false l.rest (drop l.start l.out) ≡ digits 16 false l.number)

abbrev pub decreases-loop-start : goal.decreases-loop-start
decreases-loop-start l = l.start
