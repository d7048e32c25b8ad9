-- Numbers at offsets of longer byte strings.
use Rattle.std.proofs.Common.{◌≡◌, ℕ, ℤ, zero, suc, pos, negsuc, cond, nat_lt, ◌+◌, ◌-◌, ◌*◌, ◌/◌, ◌%◌, ◌^◌, ◌<◌, ◌≤◌, List, [], ◌∷◌, ◌++◌, length, take, drop, get_or, refl, sym, ap, ◌∙◌, arith}
use Rattle.std.proofs.Math.Nat as nat
use Rattle.std.proofs.lemmas.Nat.{le_bytes_2, le_bytes_4, le_bytes_8, be_bytes_2, be_bytes_4, be_bytes_8}
use Rattle.std.proofs.lemmas.Bool.{lt-ltb}
use Rattle.std.proofs.lemmas.Int.{of_z-to_z}
use Rattle.std.proofs.Math.Facts.{sfits_to_z}
use Rattle.std.specs.Int.RustNames.{FitsSigned}
use Rattle.std.proofs.Common.{Fits}
use Rattle.std.specs.Int.{cast_unsigned, cast_signed, w16, w32, w64, byte_at, from_le_bytes, from_be_bytes, to_le_bytes, to_be_bytes}
use Rattle.netlink_packet_core_grammar.specs.Numbers.{u16_at, u32_at, le2, le4, le8, be2, be4, be8, signed_bits}

-- the two bytes of a number
pub u16_at-bytes : (a b : ℕ) (c : List ℕ) → u16_at 0 (a ∷ b ∷ c) ≡ a + 256 * b
unfolding u16_at
u16_at-bytes a b c = omega arith

-- a number doesn't depend on the bytes that follow it
pub u16_at-append : (c d : List ℕ) → 2 ≤ length c → u16_at 0 (c ++ d) ≡ u16_at 0 c
unfolding u16_at
u16_at-append (a ∷ b ∷ c) d h = refl
u16_at-append c d h = absurd (omega arith)

pub u32_at-append : (c d : List ℕ) → 4 ≤ length c → u32_at 0 (c ++ d) ≡ u32_at 0 c
unfolding u32_at
u32_at-append (a ∷ b ∷ c ∷ d' ∷ e) d h = refl
u32_at-append c d h = absurd (omega arith)

-- the number at offset 4 is the first one of the bytes from there on
pub u16_at-drop_4 : (c : List ℕ) → u16_at 4 c ≡ u16_at 0 (drop 4 c)
unfolding u16_at
u16_at-drop_4 (a ∷ b ∷ c ∷ d ∷ e) = refl
u16_at-drop_4 c = refl

-- ---- a number that was written is read back

byte_and_rest : (n p : ℕ) → n / p ≡ n / p % 256 + n / (p * 256) * 256
byte_and_rest n p = omega (arith, nat.div-div-eq-div-mul n p 256)

joined_8 : (a b c d e f g h n p q r s t u : ℕ) → n ≡ a + p * 256 → p ≡ b + q * 256 → q ≡ c + r * 256 → r ≡ d + s * 256
    → s ≡ e + t * 256 → t ≡ f + u * 256 → u ≡ g + h * 256
    → a + b * 256 + c * 65536 + d * 16777216 + e * 4294967296 + f * 1099511627776 + g * 281474976710656 + h * 72057594037927936 ≡ n
joined_8 a b c d e f g h n p q r s t u at_0 at_1 at_2 at_3 at_4 at_5 at_6 = omega arith

reversed_8 : (a b c d e f g h : ℕ) → h + g + f + e + d + c + b + a ≡ a + b + c + d + e + f + g + h
reversed_8 a b c d e f g h = omega arith

pub from_le2 : (n : ℕ) → from_le_bytes w16 (le2 n) ≡ n
unfolding le2
from_le2 n = omega arith

pub from_le4 : (n : ℕ) → from_le_bytes w32 (le4 n) ≡ n
unfolding le4
from_le4 n = omega (arith, byte_and_rest n 256, byte_and_rest n 65536)

pub from_le8 : (n : ℕ) → from_le_bytes w64 (le8 n) ≡ n
unfolding le8
from_le8 n =
    let low : n ≡ n % 256 + n / 256 * 256 = omega arith in
    joined_8 _ _ _ _ _ _ _ _ n _ _ _ _ _ _ low (byte_and_rest n 256) (byte_and_rest n 65536) (byte_and_rest n 16777216) (byte_and_rest n 4294967296) (byte_and_rest n 1099511627776) (byte_and_rest n 281474976710656)

pub from_be2 : (n : ℕ) → from_be_bytes w16 (be2 n) ≡ n
unfolding be2
from_be2 n = omega arith

pub from_be4 : (n : ℕ) → from_be_bytes w32 (be4 n) ≡ n
unfolding be4
from_be4 n = omega (arith, byte_and_rest n 256, byte_and_rest n 65536)

pub from_be8 : (n : ℕ) → from_be_bytes w64 (be8 n) ≡ n
unfolding be8
from_be8 n =
    let low : n ≡ n % 256 + n / 256 * 256 = omega arith in
    reversed_8 (n % 256) (n / 256 % 256 * 256) (n / 65536 % 256 * 65536) (n / 16777216 % 256 * 16777216) (n / 4294967296 % 256 * 4294967296) (n / 1099511627776 % 256 * 1099511627776) (n / 281474976710656 % 256 * 281474976710656) (n / 72057594037927936 * 72057594037927936)
    ∙ joined_8 _ _ _ _ _ _ _ _ n _ _ _ _ _ _ low (byte_and_rest n 256) (byte_and_rest n 65536) (byte_and_rest n 16777216) (byte_and_rest n 4294967296) (byte_and_rest n 1099511627776) (byte_and_rest n 281474976710656)

pub u16_at-le2 : (n : ℕ) (c : List ℕ) → u16_at 0 (le2 n ++ c) ≡ n
unfolding u16_at le2
u16_at-le2 n c = from_le2 n

pub u32_at-le4 : (n : ℕ) (c : List ℕ) → u32_at 0 (le4 n ++ c) ≡ n
unfolding u32_at le4
u32_at-le4 n c = from_le4 n

-- ---- a number in range is encoded as std encodes it

pub le2-bytes : (n : ℕ) → n < 2 ^ 16 → to_le_bytes w16 n ≡ le2 n
unfolding le2
le2-bytes n h = ap (λ d. n % 256 ∷ d ∷ []) (omega arith)

pub le4-bytes : (n : ℕ) → n < 2 ^ 32 → to_le_bytes w32 n ≡ le4 n
unfolding le4
le4-bytes n h = ap (λ d. byte_at 0 n ∷ byte_at 1 n ∷ byte_at 2 n ∷ d ∷ []) (omega arith)

pub le8-bytes : (n : ℕ) → n < 2 ^ 64 → to_le_bytes w64 n ≡ le8 n
unfolding le8
le8-bytes n h = ap (λ d. byte_at 0 n ∷ byte_at 1 n ∷ byte_at 2 n ∷ byte_at 3 n ∷ byte_at 4 n ∷ byte_at 5 n ∷ byte_at 6 n ∷ d ∷ []) (omega arith)

pub be2-bytes : (n : ℕ) → n < 2 ^ 16 → to_be_bytes w16 n ≡ be2 n
unfolding be2
be2-bytes n h = ap (λ d. d ∷ byte_at 0 n ∷ []) (omega arith)

pub be4-bytes : (n : ℕ) → n < 2 ^ 32 → to_be_bytes w32 n ≡ be4 n
unfolding be4
be4-bytes n h = ap (λ d. d ∷ byte_at 2 n ∷ byte_at 1 n ∷ byte_at 0 n ∷ []) (omega arith)

pub be8-bytes : (n : ℕ) → n < 2 ^ 64 → to_be_bytes w64 n ≡ be8 n
unfolding be8
be8-bytes n h = ap (λ d. d ∷ byte_at 6 n ∷ byte_at 5 n ∷ byte_at 4 n ∷ byte_at 3 n ∷ byte_at 2 n ∷ byte_at 1 n ∷ byte_at 0 n ∷ []) (omega arith)

pub ruleset digits = (le2-bytes, le4-bytes, le8-bytes, be2-bytes, be4-bytes, be8-bytes)

-- ---- a number that was read from bytes is encoded as the same bytes

pub le2_read : (bs : List ℕ) (n : ℕ) → length bs ≡ 2 → ((i : ℕ) → get_or bs i 0 < 256) → n ≡ from_le_bytes w16 bs → le2 n ≡ bs
le2_read bs n l s e = sym (le2-bytes n (omega (arith, e, s 0, s 1))) ∙ le_bytes_2 bs n l s e

pub le4_read : (bs : List ℕ) (n : ℕ) → length bs ≡ 4 → ((i : ℕ) → get_or bs i 0 < 256) → n ≡ from_le_bytes w32 bs → le4 n ≡ bs
le4_read bs n l s e = sym (le4-bytes n (omega (arith, e, s 0, s 1, s 2, s 3))) ∙ le_bytes_4 bs n l s e

pub le8_read : (bs : List ℕ) (n : ℕ) → length bs ≡ 8 → ((i : ℕ) → get_or bs i 0 < 256) → n ≡ from_le_bytes w64 bs → le8 n ≡ bs
le8_read bs n l s e = sym (le8-bytes n (omega (arith, e, s 0, s 1, s 2, s 3, s 4, s 5, s 6, s 7))) ∙ le_bytes_8 bs n l s e

pub be2_read : (bs : List ℕ) (n : ℕ) → length bs ≡ 2 → ((i : ℕ) → get_or bs i 0 < 256) → n ≡ from_be_bytes w16 bs → be2 n ≡ bs
be2_read bs n l s e = sym (be2-bytes n (omega (arith, e, s 0, s 1))) ∙ be_bytes_2 bs n l s e

pub be4_read : (bs : List ℕ) (n : ℕ) → length bs ≡ 4 → ((i : ℕ) → get_or bs i 0 < 256) → n ≡ from_be_bytes w32 bs → be4 n ≡ bs
be4_read bs n l s e = sym (be4-bytes n (omega (arith, e, s 0, s 1, s 2, s 3))) ∙ be_bytes_4 bs n l s e

pub be8_read : (bs : List ℕ) (n : ℕ) → length bs ≡ 8 → ((i : ℕ) → get_or bs i 0 < 256) → n ≡ from_be_bytes w64 bs → be8 n ≡ bs
be8_read bs n l s e = sym (be8-bytes n (omega (arith, e, s 0, s 1, s 2, s 3, s 4, s 5, s 6, s 7))) ∙ be_bytes_8 bs n l s e

-- ---- signed numbers

bits_of_pos : (n : ℕ) → n < 2147483648 → n ≡ cond (nat_lt n 2147483648) n (4294967296 + 2 * n)
bits_of_pos n h = rw (lt-ltb n 2147483648 h) refl

bits_of_negsuc : (n : ℕ) → n < 2147483648 → 4294967296 - suc n ≡ cond (nat_lt n 2147483648) (4294967296 - suc n) (4294967297 + 2 * n)
bits_of_negsuc n h = rw (lt-ltb n 2147483648 h) refl

pub bits-signed : (z : ℤ) → FitsSigned w32 z → cast_unsigned w32 z ≡ signed_bits z
unfolding signed_bits
bits-signed (pos n) h = bits_of_pos n (omega (arith, h.sfits))
bits-signed (negsuc n) h = bits_of_negsuc n (omega (arith, h.sfits))

pub signed-bits : (n : ℕ) → n < 2 ^ 32 → signed_bits (cast_signed w32 n) ≡ n
signed-bits n h = let f : Fits w32 n = record { fits = h } in sym (bits-signed (cast_signed w32 n) (sfits_to_z f)) ∙ of_z-to_z w32 n h

pub ruleset signs = (bits-signed, signed-bits)

-- each number is a byte
abbrev pub AllBytes : List ℕ → Type 0
AllBytes c = (i : ℕ) → get_or c i 0 < 256

two_bytes : (a b : ℕ) → a < 256 → b < 256 → AllBytes (a ∷ b ∷ [])
two_bytes a b p q zero = p
two_bytes a b p q (suc zero) = q
two_bytes a b p q (suc (suc i)) = omega arith

four_bytes : (a b c d : ℕ) → a < 256 → b < 256 → c < 256 → d < 256 → AllBytes (a ∷ b ∷ c ∷ d ∷ [])
four_bytes a b c d p q r s zero = p
four_bytes a b c d p q r s (suc zero) = q
four_bytes a b c d p q r s (suc (suc zero)) = r
four_bytes a b c d p q r s (suc (suc (suc zero))) = s
four_bytes a b c d p q r s (suc (suc (suc (suc i)))) = omega arith

-- the bytes of the number at an offset
pub written_2_at : (i : ℕ) (c : List ℕ) → AllBytes c → le2 (u16_at i c) ≡ get_or c i 0 ∷ get_or c (i + 1) 0 ∷ []
unfolding u16_at
written_2_at i c h = le2_read (get_or c i 0 ∷ get_or c (i + 1) 0 ∷ []) _ refl (two_bytes _ _ (h i) (h (i + 1))) refl

pub written_4_at : (i : ℕ) (c : List ℕ) → AllBytes c → le4 (u32_at i c) ≡ get_or c i 0 ∷ get_or c (i + 1) 0 ∷ get_or c (i + 2) 0 ∷ get_or c (i + 3) 0 ∷ []
unfolding u32_at
written_4_at i c h = le4_read (get_or c i 0 ∷ get_or c (i + 1) 0 ∷ get_or c (i + 2) 0 ∷ get_or c (i + 3) 0 ∷ []) _ refl (four_bytes _ _ _ _ (h i) (h (i + 1)) (h (i + 2)) (h (i + 3))) refl

-- the bytes of the number at the start
pub le4_first : (c : List ℕ) → 4 ≤ length c → AllBytes c → le4 (u32_at 0 c) ≡ take 4 c
le4_first (x ∷ y ∷ z ∷ w ∷ b) l h = written_4_at 0 (x ∷ y ∷ z ∷ w ∷ b) h
le4_first c l h = absurd (omega arith)
