use Rattle.std.proofs.Common.{true, false, sym, ◌∙◌, arith}
use Rattle.std.proofs.lemmas.Bool.Decides.{nat_tests}
use Rattle.link_lines_parts.proofs.WholeLists.{shown_up_to}
use Rattle.link_lines_parts.proofs.whole.shown_padding.Goals as goal

pub returns-then-is_zero : goal.returns-then-is_zero
returns-then-is_zero c =
    shown_up_to c.args.size c.nla_align-end.result c.args.bytes.now true (omega (arith, c.nla_align-end.ensures)) (grind (arith, nat_tests)) (sym c.is_zero.ensures ∙ c.if-is_zero.true)

pub returns-else-is_zero : goal.returns-else-is_zero
returns-else-is_zero c =
    shown_up_to c.args.size c.nla_align-end.result c.args.bytes.now false (omega (arith, c.nla_align-end.ensures)) (grind (arith, nat_tests)) (sym c.is_zero.ensures ∙ c.if-is_zero.false)
