-- The canonical prefix of a body.
use Rattle.std.specs.Prelude.{◌≡◌, ℕ, ◌-◌, ◌≤◌, List, length, take}
use Rattle.attribute_tables_grammar.specs.Peers.{RuleOfPeers}
use Rattle.link_message_grammar.specs.Body.{attribute_bytes, family, header_text, attributes_rule}
use Rattle.link_interpreter.specs.Prefixes.{IsCanonicalPrefix}

-- The first n bytes of a body under a rule of peers are canonical: if n is 16 or more, the header and the attributes up
-- to there are.
pub record IsBodyPrefix (p : RuleOfPeers) (b : List ℕ) (n : ℕ) : Type 0 where
  pub within : n ≤ length b
  pub header : 16 ≤ n → header_text b ≡ take 16 b
  pub attributes : 16 ≤ n → IsCanonicalPrefix (attributes_rule p (family b)) (attribute_bytes b) (n - 16)
