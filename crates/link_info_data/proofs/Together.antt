-- The laws, from those of the grammars.
use Rattle.attribute_tables_grammar.proofs.LookUps.{named-payload}
use Rattle.attribute_tables_grammar.proofs.Peerless.{rules_without_peers_are_one}
use Rattle.link_info_grammar.proofs.Families.{unlisted_names_hold_bytes}
use Rattle.link_info_data.specs.Laws.{DataWithoutPeersHaveOneRule, NamesDetermineRules, PortDataHaveOneRule, PortNamesDetermineRules}
use Rattle.link_info_data.proofs.InForce as in_force
use Rattle.link_info_data.proofs.WithoutPeers as without_peers

pub names : NamesDetermineRules
names = in_force.names_determine_rules named-payload unlisted_names_hold_bytes

pub port_names : PortNamesDetermineRules
port_names = in_force.port_names_determine_rules named-payload unlisted_names_hold_bytes

pub data_independent : DataWithoutPeersHaveOneRule
data_independent = without_peers.data_without_peers rules_without_peers_are_one

pub port_data_independent : PortDataHaveOneRule
port_data_independent = without_peers.port_data rules_without_peers_are_one named-payload

-- what the laws are proved from
pub ruleset laws = (names, port_names, data_independent, port_data_independent)
