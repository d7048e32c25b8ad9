use Rattle.link_message_grammar.proofs.Together.{body_laws}
use Rattle.link_message_grammar.proofs.laws.body_laws_hold_for_any_peers.Goals as goal

pub returns : goal.returns
returns c = body_laws
