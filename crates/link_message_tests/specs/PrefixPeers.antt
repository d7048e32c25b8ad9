-- A rule of peers of which only the first four bytes count.
use Rattle.std.specs.Prelude.{nat_le, length, take, bytes_eq}
use Rattle.attribute_tables_grammar.specs.Peers.{RuleOfPeers}

-- The rule by which four bytes or more are accepted, and the first four are compared and written: they are the header
-- of an attribute.
abbrev pub prefix_peer : RuleOfPeers
prefix_peer = record {
  accepted = λ b. nat_le 4 (length b);
  same = λ a b. bytes_eq (take 4 a) (take 4 b);
  canonical = λ b. take 4 b;
  attributes = λ b. 1;
}
