-- The value of a payload determines it among payloads of one size.
use Rattle.std.proofs.Common.{◌≡◌, ℕ, ◌+◌, ◌-◌, ◌%◌, ◌^◌, ◌<◌, ◌≤◌, Bool, true, false, cond, List, [], ◌∷◌, ◌++◌, length, take, get_or, refl, sym, ap, ◌∙◌, inl, inr, arith}
use Rattle.std.specs.Prelude.{◌==◌, ◌||◌, codes, decimal, nat_lt}
use Rattle.std.specs.List.{All}
use Rattle.std.specs.Net.Addr.{segments_of}
use Rattle.std.specs.Net.Text.{hex_groups_text, ipv4_text, ipv6_text}
use Rattle.std.proofs.lemmas.Bool.{cond_both, eqb-true, ltb-true}
use Rattle.std.proofs.lemmas.Fmt.{decimal_is_IsNumeral}
use Rattle.std.proofs.lemmas.List.{length-take}
use Rattle.std.proofs.lemmas.Str.Parse.{digit_at}
use Rattle.std.proofs.NetLemmas.Alphabet.{IsDigitOrDot, IsHexOrColon, All-ipv4_text, All-hex_groups_text}
use Rattle.std.proofs.NetLemmas.Texts.{AllSegments}
use Rattle.netlink_packet_core_grammar.specs.Bytes.{AreBytes}
use Rattle.attribute_tables_grammar.specs.Shapes.{number}
use Rattle.link_lines_values.specs.declared.values.ShownBy.TheVariants as V
use Rattle.link_lines_values.specs.Bytes.{address_text}
use Rattle.link_lines_values.specs.Digits.{big_endian, half_of, hex_number, is_number, is_signed_size, signed_by}
use Rattle.link_lines_values.specs.Flags.{big_endian_flags, flags_text}
use Rattle.link_lines_values.specs.Laws.{SizedValuesAreDetermined}
use Rattle.link_lines_values.specs.Names.{Text, named_number, named_signed}
use Rattle.link_lines_values.specs.Records.{is_size}
use Rattle.link_lines_values.specs.Values.{Shown, determines_sized, named_flags_value, value_text}
use Rattle.link_lines_values.proofs.NumbersDetermined.{highest_first, lowest_first, numbers_determined, sized}
use Rattle.link_lines_values.proofs.BytesDetermined.{bytes_determined}
use Rattle.link_lines_values.proofs.ValuesDetermined.{addresses_determined, bytes_at, segments_at, settings_determined}
use Rattle.netlink_packet_core_grammar.proofs.Bytes.{AreBytes-take}

none_are : (p : List ℕ) → length p ≡ 0 → [] ≡ p
none_are [] h = refl
none_are (x ∷ p) h = absurd (omega arith)

-- An address of 4 bytes or of 16.
address : (n : ℕ) (t : Bool) → (n == 4) ≡ t → (p q : List ℕ) → (t || (n == 16)) ≡ true → AreBytes p → AreBytes q → length p ≡ n → length q ≡ n → address_text p ≡ address_text q → p ≡ q
address n true z p q h a b k l e = addresses_determined.ipv4 p q a b (k ∙ eqb-true n 4 z) (l ∙ eqb-true n 4 z) e
address n false z p q h a b k l e = addresses_determined.ipv6 p q a b (k ∙ eqb-true n 16 h) (l ∙ eqb-true n 16 h) e

value_determined : (n : ℕ) (v : Shown) (p q : List ℕ) → determines_sized n v ≡ true → AreBytes p → AreBytes q → length p ≡ n → length q ≡ n → value_text v p ≡ value_text v q → p ≡ q
value_determined n (V.Number numbers) p q h a b k l e = numbers_determined.little numbers p q a b (k ∙ sym l) (ap is_size k ∙ h) e
value_determined n (V.BigEndian numbers) p q h a b k l e = numbers_determined.big numbers p q a b (k ∙ sym l) (ap is_size k ∙ h) e
value_determined n (V.Signed texts) p q h a b k l e = numbers_determined.signed texts p q a b (k ∙ sym l) (ap is_signed_size k ∙ h) e
value_determined n V.Flags p q h a b k l e = numbers_determined.flags p q a b (k ∙ sym l) (ap is_size k ∙ h) e
value_determined n (V.NamedFlags names) p q h a b k l e = numbers_determined.named_flags names p q a b (k ∙ sym l) (ap is_size k ∙ h) e
value_determined n V.BigEndianFlags p q h a b k l e = settings_determined.big p q a b (k ∙ sym l) (ap is_size k ∙ h) e
value_determined n V.Presence p q h a b k l e = sym (none_are p (k ∙ eqb-true n 0 h)) ∙ none_are q (l ∙ eqb-true n 0 h)
value_determined n V.HardwareAddress p q h a b k l e = bytes_determined.hardware p q a b e
value_determined n V.Address p q h a b k l e = address n _ refl p q h a b k l e
value_determined n V.PortRange p q h a b k l e = settings_determined.ports p q a b (k ∙ eqb-true n 4 h) (l ∙ eqb-true n 4 h) e
value_determined n (V.FlagsAndMask names) p q h a b k l e = settings_determined.masked names p q a b (k ∙ eqb-true n 8 h) (l ∙ eqb-true n 8 h) e
value_determined n v p q h a b k l e = absurd cc

-- ---- no value begins as the word for bytes does

other_byte : (m n : ℕ) → m < 98 → n ≡ 98 → m ≡ n → ⊥
other_byte m n h k e = omega arith

other_third : (m n : ℕ) → m ≤ 102 → n ≡ 121 → m ≡ n → ⊥
other_third m n h k e = omega arith

-- A byte before `b` after the space.
low_second : (t s : List ℕ) → get_or t 1 0 < 98 → t ≡ codes " bytes" ++ s → ⊥
low_second t s h e = other_byte (get_or t 1 0) 98 h refl (ap (λ l. get_or l 1 0) e)

pub first_kept : (a b : List ℕ) → 0 < length a → get_or (a ++ b) 0 0 ≡ get_or a 0 0
first_kept [] b h = absurd (omega arith)
first_kept (c ∷ a) b h = refl

-- Digits before any bytes.
pub digits_low : (n : ℕ) (s : List ℕ) → n < 2 ^ 64 → get_or (decimal n ++ s) 0 0 < 98
digits_low n s h =
    let d = (decimal_is_IsNumeral n h).0 in
    omega (arith, first_kept (decimal n) s d.0, (digit_at (decimal n) 0 d.1 d.0).1)

pub chosen_low : (b : Bool) (x y : List ℕ) (i : ℕ) → b ≡ true → get_or x i 0 < 98 → get_or (cond b x y) i 0 < 98
chosen_low true x y i h l = l
chosen_low false x y i h l = absurd cc

either_low : (b : Bool) (x y : List ℕ) (i : ℕ) → (b ≡ true → get_or x i 0 < 98) → get_or y i 0 < 98 → get_or (cond b x y) i 0 < 98
either_low true x y i h l = h refl
either_low false x y i h l = l

half_small : (size : ℕ) → half_of size ≤ 9223372036854775808
half_small size =
    cond_both (size == 1) 128 _ (λ n. n ≤ 9223372036854775808) (λ e. omega arith)
    (λ e. cond_both (size == 2) 32768 _ (λ n. n ≤ 9223372036854775808) (λ f. omega arith)
    (λ f. cond_both (size == 8) 9223372036854775808 2147483648 (λ n. n ≤ 9223372036854775808) (λ g. omega arith) (λ g. omega arith)))

signed_by_low : (half n : ℕ) → half ≤ 9223372036854775808 → get_or (signed_by half n) 0 0 < 98
signed_by_low half n l =
    either_low (nat_lt n half) (decimal n) _ 0
    (λ h. let k = digits_low n [] (omega (arith, ltb-true n half h, l)) in omega (arith, k, first_kept (decimal n) [] (decimal_is_IsNumeral n (omega (arith, ltb-true n half h, l))).0.0)) (omega arith)

-- A number with its sign before any bytes.
signed_is_some : (half n : ℕ) (t : Bool) → half ≤ 9223372036854775808 → nat_lt n half ≡ t → 0 < length (cond t (decimal n) (45 ∷ decimal (half + half - n)))
signed_is_some half n true l h = (decimal_is_IsNumeral n (omega (arith, ltb-true n half h, l))).0.0
signed_is_some half n false l h = omega arith

pub signed_low : (size n : ℕ) (s : List ℕ) → get_or (signed_by (half_of size) n ++ s) 0 0 < 98
signed_low size n s = omega (arith, first_kept (signed_by (half_of size) n) s (signed_is_some (half_of size) n _ (half_small size) refl), signed_by_low (half_of size) n (half_small size))

-- Flags, whichever names follow.
pub flags_low : (t : Bool) (n : ℕ) (a b : List ℕ) → get_or (32 ∷ cond t (hex_number n ++ a) (hex_number n ++ b)) 1 0 < 98
flags_low true n a b = omega arith
flags_low false n a b = omega arith

no_flags : (names : List Text) (p s : List ℕ) → is_number p ≡ true → named_flags_value names p ≡ codes " bytes" ++ s → ⊥
no_flags names p s h e = low_second _ s (chosen_low (is_number p) (32 ∷ flags_text names p) _ 1 h (flags_low (length p == 4) (number p) _ _)) e

-- ---- addresses

under_letters : (c : ℕ) → IsDigitOrDot c → c < 98
under_letters c (inl h) = omega (arith, h)
under_letters c (inr h) = omega (arith, h)

pub first_low : (t : List ℕ) → All IsDigitOrDot t → get_or t 0 0 < 98
first_low [] h = omega arith
first_low (c ∷ t) h = under_letters c (h 0 0 (omega arith))

no_ipv4 : (p s : List ℕ) → AreBytes p → 32 ∷ ipv4_text p ≡ codes " bytes" ++ s → ⊥
no_ipv4 p s a e = low_second (32 ∷ ipv4_text p) s (first_low (ipv4_text p) (All-ipv4_text p (bytes_at p a))) e

pub up_to_f : (c : ℕ) → IsHexOrColon c → c ≤ 102
up_to_f c (inl h) = omega (arith, h)
up_to_f c (inr h) = omega (arith, h)

second_low : (t : List ℕ) → All IsHexOrColon t → get_or t 1 0 ≤ 102
second_low [] h = omega arith
second_low (c ∷ []) h = omega arith
second_low (c ∷ d ∷ t) h = up_to_f d (h 1 0 (omega arith))

mapped_low : (t : Bool) (x y : List ℕ) → get_or y 1 0 ≤ 102 → get_or (cond t (58 ∷ 58 ∷ x) y) 1 0 ≤ 102
mapped_low true x y h = omega arith
mapped_low false x y h = h

ipv6_low : (s : List ℕ) → AllSegments s → get_or (ipv6_text s) 1 0 ≤ 102
unfolding ipv6_text
ipv6_low s h = mapped_low _ _ (hex_groups_text s) (second_low (hex_groups_text s) (All-hex_groups_text s h))

no_ipv6 : (p s : List ℕ) → AreBytes p → 32 ∷ ipv6_text (segments_of p) ≡ codes " bytes" ++ s → ⊥
no_ipv6 p s a e = other_third (get_or (ipv6_text (segments_of p)) 1 0) 121 (ipv6_low (segments_of p) (segments_at p a)) refl (ap (λ l. get_or l 2 0) e)

no_address : (n : ℕ) (t : Bool) → (n == 4) ≡ t → (p s : List ℕ) → (t || (n == 16)) ≡ true → AreBytes p → length p ≡ n → address_text p ≡ codes " bytes" ++ s → ⊥
no_address n true z p s h a k e = let l : length p ≡ 4 = k ∙ eqb-true n 4 z in no_ipv4 p s a (rw l at e)
no_address n false z p s h a k e = let l : length p ≡ 16 = k ∙ eqb-true n 16 h in no_ipv6 p s a (rw l at e)

-- ---- values

pub glyph_by : (t : Bool) (d : ℕ) → d < 16 → cond t (48 + d) (87 + d) ≤ 102
glyph_by true d h = omega arith
glyph_by false d h = omega arith

no_hardware : (p s : List ℕ) → value_text V.HardwareAddress p ≡ codes " bytes" ++ s → ⊥
no_hardware [] s e = absurd cc
no_hardware (b ∷ p) s e = other_third _ 121 (glyph_by (nat_lt (b % 16) 10) (b % 16) (omega arith)) refl (ap (λ l. get_or l 2 0) e)

no_word : (n : ℕ) (v : Shown) (p s : List ℕ) → determines_sized n v ≡ true → AreBytes p → length p ≡ n → value_text v p ≡ codes " bytes" ++ s → ⊥
no_word n (V.Number numbers) p s h a k e =
    let size = ap is_size k ∙ h in
    low_second _ s (chosen_low (is_number p) (32 ∷ named_number numbers (number p)) _ 1 size (digits_low (number p) _ (lowest_first.small p a (sized (length p) size)))) e
no_word n (V.BigEndian numbers) p s h a k e =
    let size = ap is_size k ∙ h in
    low_second _ s (chosen_low (is_number p) (32 ∷ named_number numbers (big_endian p)) _ 1 size
    (digits_low (big_endian p) _ (highest_first.small p a (sized (length p) size)))) e
no_word n (V.Signed texts) p s h a k e = low_second _ s (chosen_low (is_signed_size (length p)) (32 ∷ named_signed texts (length p) (number p)) _ 1 (ap is_signed_size k ∙ h) (signed_low (length p) (number p) _)) e
no_word n V.Flags p s h a k e = no_flags [] p s (ap is_size k ∙ h) e
no_word n (V.NamedFlags names) p s h a k e = no_flags names p s (ap is_size k ∙ h) e
no_word n V.BigEndianFlags p s h a k e = low_second _ s (chosen_low (is_number p) (32 ∷ big_endian_flags p) _ 1 (ap is_size k ∙ h) (omega arith)) e
no_word n V.Presence p s h a k e = absurd cc
no_word n V.HardwareAddress p s h a k e = no_hardware p s e
no_word n V.Address p s h a k e = no_address n _ refl p s h a k e
no_word n V.PortRange p s h a k e =
    low_second _ s (chosen_low (length p == 4) (32 ∷ (decimal (big_endian (take 2 p)) ++ _)) _ 1 (ap (λ m. m == 4) k ∙ h)
    (digits_low (big_endian (take 2 p)) _ (highest_first.small (take 2 p) (AreBytes-take 2 p a) (omega (arith, length-take 2 p))))) e
no_word n (V.FlagsAndMask names) p s h a k e = low_second _ s (chosen_low (length p == 8) (32 ∷ _) _ 1 (ap (λ m. m == 8) k ∙ h) (omega arith)) e
no_word n v p s h a k e = absurd cc

pub sized_determined : SizedValuesAreDetermined
sized_determined = record { determined = value_determined; apart = no_word }
