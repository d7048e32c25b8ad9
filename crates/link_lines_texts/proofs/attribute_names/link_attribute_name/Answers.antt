use Rattle.std.proofs.Common.{[], get_or, None, Some, sym, ap, ◌∙◌}
use Rattle.link_lines_values.specs.DenseRows.{find}
use Rattle.link_lines_texts.specs.AttributeNames.{first_name, link_rows, family_names}
use Rattle.link_lines_texts.proofs.Joined.{link_found}
use Rattle.link_lines_texts.proofs.RowFacts.{at_kind}
use Rattle.link_lines_texts.proofs.attribute_names.link_attribute_name.Goals as goal

pub returns-in-Some : goal.returns-in-Some
returns-in-Some c =
    let own = get_or family_names c.args.family [] in
    ap (λ o. first_name o (find c.args.kind own)) (at_kind c.args.kind (Some c.in-Some.name) c.link_rows.result.now link_rows c.in-Some.ensures c.link_rows.ensures.attribute_names)
    ∙ sym (link_found c.args.kind c.args.family c.requires)

pub returns-in-None : goal.returns-in-None
returns-in-None c =
    let own = get_or family_names c.args.family [] in
    at_kind c.args.kind c.look_up-in-None.result c.family_names.result.now own c.look_up-in-None.ensures c.family_names.ensures.attribute_names
    ∙ ap (λ o. first_name o (find c.args.kind own)) (at_kind c.args.kind None c.link_rows.result.now link_rows c.in-None.ensures c.link_rows.ensures.attribute_names)
    ∙ sym (link_found c.args.kind c.args.family c.requires)
