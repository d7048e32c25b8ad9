use Rattle.std.proofs.Common.{sym, ◌∙◌}
use Rattle.std.proofs.lemmas.Bool.{eqb-true}
use Rattle.link_tables.specs.declared.table.TheConstants.{LINK_INFO}
use Rattle.link_lines_texts.proofs.Joined.{of_info}
use Rattle.link_lines_texts.proofs.attribute_names.attribute_names_of.Goals as goal

pub returns-then-is_link_info-clause-attribute_names : goal.returns-then-is_link_info-clause-attribute_names
returns-then-is_link_info-clause-attribute_names c = c.info_attribute_names.ensures.attribute_names ∙ of_info c.args.table.0 (eqb-true c.args.table.0 LINK_INFO.0 (sym c.is_link_info.ensures ∙ c.if-is_link_info.true))
