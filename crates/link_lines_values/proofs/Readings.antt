-- Bytes as numbers, as std reads them.
use Rattle.std.proofs.Common.{Bool, true, eq-eqb, lt-ltb, ◌+◌, ◌<◌, ◌/◌, ◌%◌, ◌++◌, codes, get_or, ◌≡◌, ◌∙◌, ap, Some, None, cond, length, ℕ, List, [], ◌∷◌, arith, w16, w32, w64}
use Rattle.std.specs.Fmt.{decimal, digits}
use Rattle.std.specs.Int.{from_le_bytes, from_be_bytes}
use Rattle.attribute_tables_grammar.specs.Shapes.{number}
use Rattle.link_lines_values.specs.Digits.{big_endian, is_number}
use Rattle.link_lines_values.specs.Flags.{word_flags}
use Rattle.link_lines_values.specs.Names.{Text}
use Rattle.link_lines_values.specs.Values.{flags_and_mask_value, port_range_value}

pub low_2 : (a b : ℕ) → from_le_bytes w16 (a ∷ b ∷ []) ≡ number (a ∷ b ∷ [])
low_2 a b = omega arith

pub low_3 : (a b c : ℕ) → from_le_bytes w32 (a ∷ b ∷ c ∷ 0 ∷ []) ≡ number (a ∷ b ∷ c ∷ [])
low_3 a b c = omega arith

pub low_4 : (a b c d : ℕ) → from_le_bytes w32 (a ∷ b ∷ c ∷ d ∷ []) ≡ number (a ∷ b ∷ c ∷ d ∷ [])
low_4 a b c d = omega arith

pub low_8 : (a b c d e f g h : ℕ) → from_le_bytes w64 (a ∷ b ∷ c ∷ d ∷ e ∷ f ∷ g ∷ h ∷ []) ≡ number (a ∷ b ∷ c ∷ d ∷ e ∷ f ∷ g ∷ h ∷ [])
low_8 a b c d e f g h = omega arith

pub high_2 : (a b : ℕ) → from_be_bytes w16 (a ∷ b ∷ []) ≡ big_endian (a ∷ b ∷ [])
high_2 a b = omega arith

pub high_3 : (a b c : ℕ) → from_be_bytes w32 (0 ∷ a ∷ b ∷ c ∷ []) ≡ big_endian (a ∷ b ∷ c ∷ [])
high_3 a b c = omega arith

pub high_4 : (a b c d : ℕ) → from_be_bytes w32 (a ∷ b ∷ c ∷ d ∷ []) ≡ big_endian (a ∷ b ∷ c ∷ d ∷ [])
high_4 a b c d = omega arith

pub high_8 : (a b c d e f g h : ℕ) → from_be_bytes w64 (a ∷ b ∷ c ∷ d ∷ e ∷ f ∷ g ∷ h ∷ []) ≡ big_endian (a ∷ b ∷ c ∷ d ∷ e ∷ f ∷ g ∷ h ∷ [])
high_8 a b c d e f g h = omega arith

pub eight_bytes : (p : List ℕ) (n : ℕ) → length p ≡ 8 → n ≡ from_le_bytes w64 p → Some n ≡ cond (is_number p) (Some (number p)) None
eight_bytes (a ∷ b ∷ c ∷ d ∷ e ∷ f ∷ g ∷ h ∷ []) n len from = ap Some (from ∙ low_8 a b c d e f g h)
eight_bytes p n len from = absurd (omega arith)

pub mask_bytes : (names : List Text) (p : List ℕ) (flags mask : ℕ) → length p ≡ 8 → flags ≡ from_le_bytes w32 (get_or p 0 0 ∷ get_or p 1 0 ∷ get_or p 2 0 ∷ get_or p 3 0 ∷ []) → mask ≡ from_le_bytes w32 (get_or p 4 0 ∷ get_or p 5 0 ∷ get_or p 6 0 ∷ get_or p 7 0 ∷ []) → 32 ∷ (word_flags names flags ++ (codes " mask " ++ word_flags names mask)) ≡ flags_and_mask_value names p
mask_bytes names (a ∷ b ∷ c ∷ d ∷ e ∷ f ∷ g ∷ h ∷ []) flags mask len from into =
    ap (λ x. 32 ∷ (word_flags names x ++ (codes " mask " ++ word_flags names mask))) (from ∙ low_4 a b c d)
    ∙ ap (λ x. 32 ∷ (word_flags names (number (a ∷ b ∷ c ∷ d ∷ [])) ++ (codes " mask " ++ word_flags names x))) (into ∙ low_4 e f g h)
mask_bytes names p flags mask len from into = absurd (omega arith)

pub port_bytes : (p : List ℕ) (first end : ℕ) → length p ≡ 4 → first ≡ from_be_bytes w16 (get_or p 0 0 ∷ get_or p 1 0 ∷ []) → end ≡ from_be_bytes w16 (get_or p 2 0 ∷ get_or p 3 0 ∷ []) → 32 ∷ (decimal first ++ 32 ∷ decimal end) ≡ port_range_value p
port_bytes (a ∷ b ∷ c ∷ d ∷ []) first end len from into =
    ap (λ x. 32 ∷ (decimal x ++ 32 ∷ decimal end)) (from ∙ high_2 a b)
    ∙ ap (λ x. 32 ∷ (decimal (big_endian (a ∷ b ∷ [])) ++ 32 ∷ decimal x)) (into ∙ high_2 c d)
port_bytes p first end len from into = absurd (omega arith)

pub ruleset low_first = (low_2, low_3, low_4, low_8)

pub ruleset high_first = (high_2, high_3, high_4, high_8)

digit_by : (b c : Bool) (n m : ℕ) (more : List ℕ) → b ≡ true → c ≡ true → m ≡ n → cond b (cond c (48 + m) (87 + m) ∷ []) more ≡ (48 + n) ∷ []
digit_by true true n m more h k e = ap (λ z. (48 + z) ∷ []) e
digit_by b c n m more h k e = absurd cc

-- A number under 10 has one digit.
pub one_digit : (n : ℕ) → n < 10 → decimal n ≡ (48 + n) ∷ []
unfolding digits
one_digit n h = digit_by _ _ n (n % 10) _ (eq-eqb (n / 10) 0 (omega (arith, h))) (lt-ltb (n % 10) 10 (omega arith)) (omega (arith, h))
