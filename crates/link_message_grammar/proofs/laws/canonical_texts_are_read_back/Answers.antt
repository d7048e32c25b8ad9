use Rattle.link_message_grammar.specs.Body.{link_peer}
use Rattle.link_message_grammar.proofs.Body.{link_peer_lawful}
use Rattle.link_message_grammar.proofs.ReadBack.{canonical_texts_are_read_back}
use Rattle.link_message_grammar.proofs.laws.canonical_texts_are_read_back.Goals as goal

pub returns : goal.returns
returns c = canonical_texts_are_read_back link_peer link_peer_lawful
