-- The rule of a peer, the other link of a pair: four functions on bytes, and their laws.
use Rattle.std.specs.Prelude.{◌≡◌, ℕ, ◌*◌, ◌≤◌, Bool, true, false, List, length, bytes_eq}
use Rattle.netlink_packet_core_grammar.specs.Bytes.{AreBytes}
use Rattle.attribute_tables_grammar.specs.Rules.{Rule}

-- A rule for peers: which are accepted, which are equivalent, the canonical bytes, and the number of attributes inside.
pub record RuleOfPeers : Type 0 where
  pub accepted : List ℕ → Bool
  pub same : List ℕ → List ℕ → Bool
  pub canonical : List ℕ → List ℕ
  pub attributes : List ℕ → ℕ

-- The laws of a rule for peers: canonical bytes are accepted, and are their own canonical bytes; they decide equivalence;
-- they are at most 77 times as long; the attributes inside take at least 4 bytes each; canonical forms of bytes are bytes.
pub record LawfulPeer (p : RuleOfPeers) : Type 0 where
  pub canonical_accepted : (b : List ℕ) → p.accepted b ≡ true → p.accepted (p.canonical b) ≡ true
  pub canonical_idempotent : (b : List ℕ) → p.accepted b ≡ true → p.canonical (p.canonical b) ≡ p.canonical b
  pub same_implies_equal_text : (a b : List ℕ) → p.accepted a ≡ true → p.accepted b ≡ true → p.same a b ≡ true →
      p.canonical a ≡ p.canonical b
  pub equal_text_implies_same : (a b : List ℕ) → p.accepted a ≡ true → p.accepted b ≡ true →
      p.canonical a ≡ p.canonical b → p.same a b ≡ true
  pub bounded : (b : List ℕ) → p.accepted b ≡ true → length (p.canonical b) ≤ 77 * length b
  pub counted : (b : List ℕ) → p.accepted b ≡ true → 4 * p.attributes b ≤ length b
  pub bytes : (b : List ℕ) → p.accepted b ≡ true → AreBytes b → AreBytes (p.canonical b)

-- The rule that keeps a peer as bytes.
abbrev pub bytes_peer : RuleOfPeers
bytes_peer = record { accepted = λ b. true; same = λ a b. bytes_eq a b; canonical = λ b. b; attributes = λ b. 0 }

-- A rule for peers as a rule for payloads.
abbrev pub peer_rule : RuleOfPeers → Rule
peer_rule p = record {
  accepted = p.accepted;
  same = p.same;
  canonical = p.canonical;
  attributes = p.attributes;
  fits = λ b. true;
  empty_ports = λ b. false;
}
