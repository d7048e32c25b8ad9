use Rattle.link_interpreter.proofs.Held.{lawful_info}
use Rattle.link_interpreter.proofs.info.link_info_is_lawful.Goals as goal

pub returns : goal.returns
returns g c = lawful_info g.P.PeerSet.peer (c.info_grammar_is_lawful.ensures g.P.PeerSet.peer c.peers_are_lawful.ensures)
