use Rattle.std.proofs.Common.{◌++◌, length, ap, ◌∙◌, arith}
use Rattle.attribute_tables_grammar.specs.LookUps.{table_list_rule}
use Rattle.attribute_tables_grammar.specs.Lists.{any}
use Rattle.attribute_tables_grammar.specs.Tables.{Payload.list, rule}
use Rattle.link_message_grammar.specs.Body.{attributes_rule}
use Rattle.link_message_checks.proofs.body.write_attributes.Goals as goal

pub write_held-requires-clause-accepted : goal.write_held-requires-clause-accepted
unfolding table_list_rule attributes_rule
write_held-requires-clause-accepted g c = ap (λ t. (rule g.P.PeerSet.peer (list any t)).accepted c.args.bytes.now) c.family_table.ensures.table ∙ c.requires.accepted

pub write_held-requires-clause-fits : goal.write_held-requires-clause-fits
unfolding table_list_rule attributes_rule
write_held-requires-clause-fits g c = ap (λ t. (rule g.P.PeerSet.peer (list any t)).fits c.args.bytes.now) c.family_table.ensures.table ∙ c.requires.fits

pub write_held-requires-clause-capacity : goal.write_held-requires-clause-capacity
unfolding table_list_rule attributes_rule
write_held-requires-clause-capacity g c =
    let size = ap (λ t. length ((rule g.P.PeerSet.peer (list any t)).canonical c.args.bytes.now)) c.family_table.ensures.table in
    omega (arith, size, c.requires.capacity)

pub returns-clause-text : goal.returns-clause-text
unfolding table_list_rule attributes_rule
returns-clause-text g c = c.write_held.ensures.text ∙ ap (λ t. c.args.out.now.items ++ (rule g.P.PeerSet.peer (list any t)).canonical c.args.bytes.now) c.family_table.ensures.table
