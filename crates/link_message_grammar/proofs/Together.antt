-- The laws that need more than one lemma, and the lemmas that all laws use.
use Rattle.attribute_tables_grammar.proofs.Together.{one_text_each, keeps_meaning}
use Rattle.link_message_grammar.specs.Body.{body_rule}
use Rattle.link_message_grammar.specs.Laws.{CanonicalBodiesDetermineMeanings, BodiesKeepMeanings, BodyLawsHoldForAnyPeers}
use Rattle.link_message_grammar.proofs.Body.{body_lawful, body_size, link_peer_lawful, link_peers_are_lawful, old_bodies_are_migrated}
use Rattle.link_message_grammar.proofs.EmptyPorts.{empty_ports_are_determined}
use Rattle.link_message_grammar.proofs.Lines.{kinds_are_looked_up}
use Rattle.link_message_grammar.proofs.Measures.{bodies_are_measured}
use Rattle.link_message_grammar.proofs.Parts.{attributes_are_looked_up, bodies_are_headers_and_attributes, info_is_a_list_inside}
use Rattle.link_message_grammar.proofs.Peerless.{only_link_info_holds_peers}
use Rattle.link_message_grammar.proofs.ReadBack.{canonical_texts_are_read_back}
use Rattle.link_message_grammar.proofs.Sizes.{bodies_grow_by_attributes, short_bodies_fit}
use Rattle.link_message_grammar.proofs.Tables.{kinds_rise}

pub bodies_determine_meanings : CanonicalBodiesDetermineMeanings
bodies_determine_meanings p l = one_text_each (body_rule p) (body_lawful p l)

pub bodies_keep_meanings : BodiesKeepMeanings
bodies_keep_meanings p l = keeps_meaning (body_rule p) (body_lawful p l)

pub body_laws : BodyLawsHoldForAnyPeers
body_laws p lawful = record {
  headers_and_attributes = bodies_are_headers_and_attributes p;
  is_read_back = canonical_texts_are_read_back p lawful;
  looked_up = attributes_are_looked_up p;
  empty_ports = empty_ports_are_determined p;
  info_inside = info_is_a_list_inside p;
}

-- The lemmas that the laws use: of tables, of bodies under any rule of peers, and of peers.
pub ruleset tables = (kinds_rise, kinds_are_looked_up, attributes_are_looked_up, info_is_a_list_inside)

pub ruleset bodies = (body_lawful, body_size, bodies_grow_by_attributes, short_bodies_fit, bodies_determine_meanings, bodies_keep_meanings, old_bodies_are_migrated, bodies_are_measured)

pub ruleset parts = (bodies_are_headers_and_attributes, empty_ports_are_determined)

pub ruleset peers = (link_peer_lawful, link_peers_are_lawful, only_link_info_holds_peers)

pub ruleset laws = (tables, bodies, parts, peers)
