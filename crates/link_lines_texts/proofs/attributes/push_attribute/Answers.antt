use Rattle.std.proofs.Common.{◌≡◌, ◌+◌, ◌∷◌, ◌++◌, Some, ap, sym, ◌∙◌, append_assoc, refl, arith, rules}
use Rattle.netlink_packet_core_grammar.specs.Attributes.{Attribute, proper_kind}
use Rattle.link_interpreter.specs.Sameness.{attribute_of}
use Rattle.link_tables.specs.InForce.{in_force}
use Rattle.link_lines_values.proofs.Appending.{added, start, step}
use Rattle.link_lines_values.specs.Indents.{indent}
use Rattle.link_lines_texts.proofs.AppendingWith.{as_text_with, last_with}
use Rattle.link_lines_texts.specs.AttributeNames.{attribute_name_of}
use Rattle.link_lines_texts.specs.Format.{inside_of, known_inside, within_reach}
use Rattle.link_lines_texts.specs.Lists.{attribute_lines, header_inside, inside_text, named_attribute_header, named_attribute_text}
use Rattle.link_lines_texts.proofs.attributes.push_attribute.Goals as goal

pub returns-clause-appends : goal.returns-clause-appends
unfolding attribute_lines
returns-clause-appends c =
    let e : Attribute = attribute_of c.args.attribute in
    let m = c.args.list_table in
    let context = in_force c.args.force in
    let level = c.args.level + 1 in
    let name = c.in-Some.field-0.now.0.now in
    let known = within_reach level (known_inside m.scope context (inside_of c.in-Some.field-0.now.1) e.payload) in
    let row : attribute_name_of m.table.0 (proper_kind e.kind) ≡ Some (name, inside_of c.in-Some.field-0.now.1) = search rules in
    let text : indent c.args.level ++ (name ++ (inside_text level known e.payload ++ 10 ∷ header_inside level known e.payload)) ≡ attribute_lines c.args.level m context e =
    ap (λ z. indent c.args.level ++ z) (sym (append_assoc name (inside_text level known e.payload) (10 ∷ header_inside level known e.payload)))
    ∙ ap (λ o. indent c.args.level ++ (named_attribute_text level m context o e ++ 10 ∷ named_attribute_header level m context o e)) (sym row) in
    let first = step _ (start c.args.out.now _) c.in_ok-push_indent.ensures refl in
    let f = c.in_ok-extend_from_slice.ensures in
    let second = added c.extend_from_slice.new.self _ _ first f.items f.capacity refl in
    as_text_with text (last_with _ _ c.push_known.result (omega arith) second c.push_known.ensures.appends)
