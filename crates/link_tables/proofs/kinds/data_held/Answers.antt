use Rattle.std.proofs.Common.{ap, ◌∙◌}
use Rattle.attribute_tables_grammar.specs.LookUps.{payload_at, rule_or_raw}
use Rattle.link_tables.proofs.Built.{kinds_built}
use Rattle.link_tables.specs.Tables.{info_payload, table_of}
use Rattle.link_tables.proofs.kinds.data_held.Goals as goal

pub returns-clause-rule : goal.returns-clause-rule
returns-clause-rule c p = c.held_by_name.ensures.rule p table_of info_payload ∙ ap (λ ns. rule_or_raw p (payload_at ns c.args.name.now)) kinds_built
