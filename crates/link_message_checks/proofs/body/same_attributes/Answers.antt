use Rattle.std.proofs.Common.{ap, ◌∙◌}
use Rattle.attribute_tables_grammar.specs.LookUps.{table_list_rule}
use Rattle.attribute_tables_grammar.specs.Lists.{any}
use Rattle.attribute_tables_grammar.specs.Tables.{Payload.list, rule}
use Rattle.link_message_grammar.specs.Body.{attributes_rule}
use Rattle.link_message_checks.proofs.body.same_attributes.Goals as goal

pub returns : goal.returns
unfolding table_list_rule attributes_rule
returns g c = c.same_held.ensures ∙ ap (λ t. (rule g.P.PeerSet.peer (list any t)).same c.args.left.now c.args.right.now) c.family_table.ensures.table
