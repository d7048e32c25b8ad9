use Rattle.std.proofs.Common.{sym, ap, ◌∙◌}
use Rattle.link_lines_values.specs.DenseRows.{find}
use Rattle.link_lines_texts.specs.AttributeNames.{attribute_name_of, attribute_names_of}
use Rattle.link_lines_texts.proofs.Joined.{of_family}
use Rattle.link_lines_texts.proofs.RowFacts.{at_kind}
use Rattle.link_lines_texts.proofs.attribute_names.attribute_name_of.Goals as goal

pub returns-else-table : goal.returns-else-table
unfolding attribute_name_of
returns-else-table c = at_kind c.args.kind c.look_up.result c.attribute_names_of.result.now (attribute_names_of c.args.table.0) c.look_up.ensures c.attribute_names_of.ensures.attribute_names

pub returns-then-table-2 : goal.returns-then-table-2
unfolding attribute_name_of
returns-then-table-2 c = c.link_attribute_name.ensures ∙ ap (find c.args.kind) (sym (of_family c.args.table.0 c.if-table.true c.if-table-2.true))
