use Rattle.std.proofs.Common.{◌≡◌, sym, ap, ◌∙◌, drop, arith, rules}
use Rattle.std.proofs.lemmas.Bool.Decides.{nat_tests}
use Rattle.link_lines_raw.specs.Attributes.{are_next_hops_after}
use Rattle.link_lines_raw.proofs.Hops.{hops_next, hops_none, hops_refused}
use Rattle.link_lines_raw.proofs.lists.are_next_hops.Goals as goal

pub returns-then-not-is_next_hop : goal.returns-then-not-is_next_hop
returns-then-not-is_next_hop c =
    sym (hops_refused c.loop-rest.rest.now (grind (arith, nat_tests)) (sym c.is_next_hop.ensures ∙ c.if-not-is_next_hop.true)) ∙ c.loop-rest.invariant

pub loop-rest-preserved : goal.loop-rest-preserved
loop-rest-preserved c =
    let first = sym c.is_next_hop.ensures ∙ c.if-not-is_next_hop.false in
    let rest : c.split_at.result.1.now ≡ drop c.read_u16.result c.loop-rest.rest.now = search rules in
    ap (are_next_hops_after 0) rest ∙ ap (λ n. are_next_hops_after 0 (drop n c.loop-rest.rest.now)) c.read_u16.ensures ∙ sym (hops_next c.loop-rest.rest.now (grind (arith, nat_tests)) first) ∙ c.loop-rest.invariant

pub returns : goal.returns
returns c = sym (hops_none c.loop-rest.rest.now (grind (arith, nat_tests))) ∙ c.loop-rest.invariant
