-- The length of two numbers of two bytes.
use Rattle.std.proofs.Common.{◌≡◌, ℕ, ◌++◌, length, refl}
use Rattle.netlink_packet_core_grammar.specs.Numbers.{be2}

pub length-be2-be2 : (m n : ℕ) → length (be2 m ++ be2 n) ≡ 4
unfolding be2
length-be2-be2 m n = refl

pub ruleset range = (length-be2-be2)
