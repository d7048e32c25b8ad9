-- The measure of a peer's payload.
use Rattle.std.specs.Prelude.{ℕ, ◌≡◌, List, length}
use Rattle.attribute_tables_grammar.specs.Peers.{RuleOfPeers}
use Rattle.link_interpreter.specs.declared.peers.PeerMeasure.{PeerMeasure}

-- The numbers are those of the canonical payload.
pub record IsPeerMeasure (p : RuleOfPeers) (payload : List ℕ) (m : PeerMeasure) : Type 0 where
  pub text_len : m.text_len ≡ length (p.canonical payload)
  pub attributes : m.attributes ≡ p.attributes payload
