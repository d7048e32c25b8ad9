-- The rule of peers by their first four bytes is lawful.
use Rattle.std.proofs.Common.{◌≡◌, ℕ, ◌≤◌, true, List, length, take, arith}
use Rattle.std.specs.Prelude.{nat_le}
use Rattle.std.proofs.lemmas.Bool.Decides.{nat_tests}
use Rattle.std.proofs.lemmas.List.{length-take-le, take_all}
use Rattle.std.proofs.lemmas.Slice.Eq.{bytes_eq-Decides}
use Rattle.netlink_packet_core_grammar.proofs.Bytes.{AreBytes-take}
use Rattle.attribute_tables_grammar.specs.Peers.{LawfulPeer}
use Rattle.link_message_tests.specs.PrefixPeers.{prefix_peer}

four : (b : List ℕ) → nat_le 4 (length b) ≡ true → 4 ≤ length b
four b h = grind (arith, nat_tests)

written : (b : List ℕ) → nat_le 4 (length b) ≡ true → length (take 4 b) ≡ 4
written b h = length-take-le 4 b (four b h)

accepted : (n : ℕ) → n ≡ 4 → nat_le 4 n ≡ true
accepted n h = grind (arith, nat_tests)

pub prefix_peer_lawful : LawfulPeer prefix_peer
prefix_peer_lawful = record {
  canonical_accepted = λ b a. accepted (length (take 4 b)) (written b a);
  canonical_idempotent = λ b a. let l = written b a in take_all 4 (take 4 b) (omega (arith, l));
  same_implies_equal_text = λ a b x y s. (bytes_eq-Decides (take 4 a) (take 4 b)).0 s;
  equal_text_implies_same = λ a b x y e. (bytes_eq-Decides (take 4 a) (take 4 b)).1 e;
  bounded = λ b a. let l = written b a in let f = four b a in omega (arith, l, f);
  counted = λ b a. let f = four b a in omega (arith, f);
  bytes = λ b a h. AreBytes-take 4 b h;
}
