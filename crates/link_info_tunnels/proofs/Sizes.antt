-- The length of a range of ports.
use Rattle.std.proofs.Common.{◌≡◌, ℕ, ◌++◌, length, refl}
use Rattle.netlink_packet_core_grammar.specs.Numbers.{be2}

pub length-range : (m n : ℕ) → length (be2 m ++ be2 n) ≡ 4
unfolding be2
length-range m n = refl

pub ruleset range = (length-range)
