use Rattle.std.proofs.Common.{ap, ◌∙◌}
use Rattle.attribute_tables_grammar.specs.LookUps.{payload_rule}
use Rattle.link_tables.specs.Rows.{payload_of}
use Rattle.link_tables.proofs.NameRows.{found_name}
use Rattle.link_tables.proofs.names.held_by_name.Goals as goal

pub returns-clause-rule : goal.returns-clause-rule
returns-clause-rule c p tables info = ap (λ h. payload_rule p (payload_of tables info h)) c.find_name.ensures ∙ found_name p tables info c.args.rows.now c.args.name.now
