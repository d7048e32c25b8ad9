use Rattle.link_message_tests.proofs.PrefixPeers.{prefix_peer_lawful}
use Rattle.link_message_tests.proofs.checked_peers.PrefixPeerPeerRule.rule_is_lawful.Goals as goal

pub returns : goal.returns
returns c = prefix_peer_lawful
