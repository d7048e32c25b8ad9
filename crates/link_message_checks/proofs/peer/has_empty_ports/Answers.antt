use Rattle.attribute_tables_grammar.specs.Peers.{bytes_peer}
use Rattle.link_interpreter.specs.Measures.{view}
use Rattle.link_message_grammar.specs.Body.{body_rule}
use Rattle.link_message_checks.proofs.peer.has_empty_ports.Goals as goal

pub unreachable-requires : goal.unreachable-requires
unreachable-requires c = absurd (cc (c.requires, c.measures_determine_rules.ensures.rejects (body_rule bytes_peer) c.args.body.now c.in-None.ensures.measure))

pub returns : goal.returns
returns c = (c.measures_determine_rules.ensures.determines (body_rule bytes_peer) c.args.body.now (view c.in-Some.found) c.in-Some.ensures.measure).empty_ports
