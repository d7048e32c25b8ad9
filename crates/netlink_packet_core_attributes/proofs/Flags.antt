-- The flags of a kind, as code tests them.
use Rattle.std.proofs.Common.{◌≡◌, ℕ, suc, ◌*◌, ◌/◌, ◌%◌, ◌<◌, nat_eq, bit_and, refl, arith, ap, ◌∙◌}
use Rattle.std.specs.Prelude.{not, ◌==◌}
use Rattle.std.proofs.lemmas.Nat.Bits.{and_pow}
use Rattle.netlink_packet_core_attributes.specs.Kinds.{has_byte_order_flag}

one_bit : (b : ℕ) → b < 2 → not (nat_eq (b * 16384) 0) ≡ (b == 1)
one_bit (suc (suc b)) h = absurd (omega arith)
one_bit x h = refl

pub byte_order_flag : (k : ℕ) → not (nat_eq (bit_and k 16384) 0) ≡ has_byte_order_flag k
byte_order_flag k = ap (λ n. not (nat_eq n 0)) (and_pow k 14) ∙ one_bit (k / 16384 % 2) (omega arith)
