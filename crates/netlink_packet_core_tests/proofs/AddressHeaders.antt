-- The 8 bytes of a header: their number, and reading them.
use Rattle.std.proofs.Common.{◌≡◌, ℕ, suc, ◌+◌, ◌<◌, List, [], ◌∷◌, ◌++◌, length, get_or, refl, ap, arith, length-append}
use Rattle.std.specs.Int.{w32, from_le_bytes}
use Rattle.netlink_packet_core_grammar.proofs.Numbers.{le4_read}
use Rattle.netlink_packet_core.specs.Numbers.{le4}
use Rattle.netlink_packet_core_tests.specs.Addresses.{header_text}
use Rattle.netlink_packet_core_tests.specs.declared.address_messages.AddressHeader.{AddressHeader}

pub length-header_text : (h : AddressHeader) → length (header_text h) ≡ 8
unfolding header_text le4
length-header_text h = refl

pub length-header_text-append : (h : AddressHeader) (r : List ℕ) → length (header_text h ++ r) ≡ 8 + length r
length-header_text-append h r = omega (arith, length-append (header_text h) r, length-header_text h)

pub ruleset header_sizes = (length-header_text, length-header_text-append)

-- the numbers read from 8 bytes are written as the same bytes
pub header_read : (b : List ℕ) (n : ℕ) → length b ≡ 8 → ((i : ℕ) → get_or b i 0 < 256) → n ≡ from_le_bytes w32 (get_or b 4 0 ∷ get_or b 5 0 ∷ get_or b 6 0 ∷ get_or b 7 0 ∷ []) → header_text (record { family = get_or b 0 0; prefix_len = get_or b 1 0; flags = get_or b 2 0; scope = get_or b 3 0; index = n }) ≡ b
unfolding header_text
header_read (f ∷ p ∷ l ∷ s ∷ a ∷ b ∷ c ∷ d ∷ []) n e h i =
    ap (λ r. f ∷ p ∷ l ∷ s ∷ r) (le4_read (a ∷ b ∷ c ∷ d ∷ []) n refl (λ k. h (suc (suc (suc (suc k))))) i)
header_read b n e h i = absurd (omega arith)
