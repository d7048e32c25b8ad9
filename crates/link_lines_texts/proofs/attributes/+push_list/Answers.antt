use Rattle.std.proofs.Common.{◌≡◌, ◌+◌, ◌++◌, List, ℕ, Option, Some, None, option_map, Bor, ap, sym, ◌∙◌, arith, rules}
use Rattle.netlink_packet_core_grammar.specs.Attributes.{Attribute}
use Rattle.link_lines_values.proofs.Appending.{step}
use Rattle.link_interpreter.specs.Sameness.{attribute_of}
use Rattle.link_tables.specs.InForce.{in_force}
use Rattle.link_lines_texts.specs.declared.attributes.ListTable.{ListTable}
use Rattle.link_lines_texts.specs.Lists.{list_inside, nested_lines, next_in, attribute_lines, rest_lines}
use Rattle.link_lines_texts.proofs.AppendingWith.{failed_with, whole}
use Rattle.link_lines_texts.proofs.ListUnfolding.{list_in_reach, list_shorter, next, next_bare}
use Rattle.link_lines_texts.proofs.attributes.+push_list.Goals as goal

-- The list in an attribute, if there is one, with its table.
abbrev viewed : Option (ListTable × Bor (List ℕ)) → Option (ListTable × List ℕ)
viewed o = option_map (λ f. (f.0, f.1.now)) o

pub push_list-requires : goal.push_list-requires
push_list-requires t c =
    let e : Attribute = attribute_of c.in-Some.attribute in
    let now = in_force c.loop-attribute.force in
    let tells : list_inside c.args.level c.args.list_table now e ≡ Some (c.in-Some-found.inside, c.in-Some-found.list.now) = sym c.in_ok-found.ensures.list ∙ ap viewed c.in-Some-found.is in
    let s = list_shorter c.args.level c.args.list_table now c.loop-attribute.rest.now e (c.in-Some-found.inside, c.in-Some-found.list.now) c.in-Some.ensures.within tells in
    (omega (arith, s, c.loop-attribute.invariant.within), list_in_reach c.args.level c.args.list_table now e (c.in-Some-found.inside, c.in-Some-found.list.now) tells)

pub loop-attribute-preserved-in-Continue-branch-2 : goal.loop-attribute-preserved-in-Continue-branch-2
loop-attribute-preserved-in-Continue-branch-2 t c =
    let e : Attribute = attribute_of c.in-Some.attribute in
    let now = in_force c.loop-attribute.force in
    let tells : list_inside c.args.level c.args.list_table now e ≡ Some (c.in-Some-found.inside, c.in-Some-found.list.now) = sym c.in_ok-found.ensures.list ∙ ap viewed c.in-Some-found.is in
    let more = rest_lines c.args.level c.args.list_table (in_force c.force_after-force.result) c.in-Some.after.now in
    let own = step _ c.loop-attribute.invariant.appends (whole c.in_ok-found.ensures.appends) (sym (next c.args.level c.args.list_table now c.loop-attribute.rest.now e c.in-Some.after.now c.in-Some.ensures.first)) in
    record {
      within = omega (arith, c.in-Some.ensures.within, c.in-Some.ensures.following);
      appends = step _ own (whole c.in_ok-push_list.ensures) (ap (λ o. nested_lines (c.args.level + 1) o ++ more) (sym tells) ∙ ap (λ d. nested_lines (c.args.level + 1) (list_inside c.args.level c.args.list_table now e) ++ rest_lines c.args.level c.args.list_table d c.in-Some.after.now) c.force_after-force.ensures);
    }

pub loop-attribute-preserved : goal.loop-attribute-preserved
loop-attribute-preserved t c =
    let e : Attribute = attribute_of c.in-Some.attribute in
    let now = in_force c.loop-attribute.force in
    let nothing : c.in_ok-found.found ≡ None = search rules in
    let tells : list_inside c.args.level c.args.list_table now e ≡ None = sym c.in_ok-found.ensures.list ∙ ap viewed nothing in
    record {
      within = omega (arith, c.in-Some.ensures.within, c.in-Some.ensures.following);
      appends = step _ c.loop-attribute.invariant.appends (whole c.in_ok-found.ensures.appends)
          (ap (λ d. attribute_lines c.args.level c.args.list_table now e ++ rest_lines c.args.level c.args.list_table d c.in-Some.after.now) c.force_after-force.ensures
          ∙ sym (next_bare c.args.level c.args.list_table now c.loop-attribute.rest.now e c.in-Some.after.now c.in-Some.ensures.first tells));
    }

pub returns-in_err-found : goal.returns-in_err-found
returns-in_err-found t c =
    let e : Attribute = attribute_of c.in-Some.attribute in
    let now = in_force c.loop-attribute.force in
    failed_with _ _ _ _ _ (omega (arith, c.in-Some.ensures.within, c.loop-attribute.invariant.within)) c.from_residual.ensures.0 c.loop-attribute.invariant.appends c.in_err-found.ensures.appends
    (sym (next c.args.level c.args.list_table now c.loop-attribute.rest.now e c.in-Some.after.now c.in-Some.ensures.first))

pub returns-in_err-push_list : goal.returns-in_err-push_list
returns-in_err-push_list t c =
    let e : Attribute = attribute_of c.in-Some.attribute in
    let now = in_force c.loop-attribute.force in
    let x : ListTable × List ℕ = (c.in-Some-found.inside, c.in-Some-found.list.now) in
    let tells : list_inside c.args.level c.args.list_table now e ≡ Some x = sym c.in_ok-found.ensures.list ∙ ap viewed c.in-Some-found.is in
    let s = list_shorter c.args.level c.args.list_table now c.loop-attribute.rest.now e x c.in-Some.ensures.within tells in
    let more = rest_lines c.args.level c.args.list_table (next_in c.args.list_table.table now e) c.in-Some.after.now in
    let own = step _ c.loop-attribute.invariant.appends (whole c.in_ok-found.ensures.appends) (sym (next c.args.level c.args.list_table now c.loop-attribute.rest.now e c.in-Some.after.now c.in-Some.ensures.first)) in
    failed_with _ _ _ _ _ (omega (arith, s, c.loop-attribute.invariant.within)) c.from_residual-in_err-push_list.ensures.0 own c.in_err-push_list.ensures (ap (λ o. nested_lines (c.args.level + 1) o ++ more) (sym tells))
