use Rattle.std.proofs.Common.{◌≡◌, Some, None, sym, ◌∙◌, arith, rules}
use Rattle.std.proofs.lemmas.Bool.Decides.{nat_tests}
use Rattle.netlink_packet_core_grammar.specs.Attributes.{Attribute, first_attribute}
use Rattle.link_lines_parts.specs.Whole.{is_whole}
use Rattle.link_lines_parts.proofs.WholeLists.{whole_empty, whole_next, whole_none}
use Rattle.link_lines_parts.proofs.whole.is_whole.Goals as goal

pub returns-in_default : goal.returns-in_default
returns-in_default c =
    let none : first_attribute c.loop-rest.rest.now ≡ None = search rules in
    sym (whole_none c.loop-rest.rest.now none (grind (arith, nat_tests))) ∙ c.loop-rest.invariant

pub loop-rest-preserved : goal.loop-rest-preserved
loop-rest-preserved c =
    let next : (e : Attribute) → first_attribute c.loop-rest.rest.now ≡ Some (e, c.in-Some.after.now) → is_whole c.in-Some.after.now ≡ is_whole c.args.bytes.now =
    λ e h. sym (whole_next c.loop-rest.rest.now e c.in-Some.after.now h) ∙ c.loop-rest.invariant in
    next _ c.in-Some.ensures.first

pub returns : goal.returns
returns c = sym (whole_empty c.loop-rest.rest.now (grind (arith, nat_tests))) ∙ c.loop-rest.invariant
