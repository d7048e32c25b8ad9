-- How long numbers and names are as text.
use Rattle.std.proofs.Common.{◌≡◌, ℕ, zero, suc, ◌+◌, ◌*◌, ◌/◌, ◌%◌, ◌-◌, ◌^◌, ◌<◌, ◌≤◌, Bool, true, false, List, [], ◌∷◌, ◌++◌, length, refl, arith}
use Rattle.std.specs.Prelude.{◌==◌, ◌||◌, bit_and, codes, if◌then◌else◌, nat_lt, reverse}
use Rattle.std.specs.Fmt.{decimal, digit_glyph, digits, digits_onto}
use Rattle.std.proofs.lemmas.Bool.{cond_both, eqb-true, ltb-false, ltb-true}
use Rattle.std.proofs.lemmas.Bool.Decides.{nat_tests}
use Rattle.std.proofs.lemmas.Fmt.{length-decimal-le, length-decimal-le_wide}
use Rattle.std.proofs.lemmas.List.{length-append, length-reverse}
use Rattle.netlink_packet_core_grammar.specs.Bytes.{AreBytes}
use Rattle.attribute_tables_grammar.specs.Shapes.{number}
use Rattle.link_lines_values.specs.Digits.{big_endian, half_of, hex_number, signed_by}
use Rattle.link_lines_values.specs.Flags.{flags_text, has_none, listed, named_flags, nameless, nameless_text, names_set, opened, separated, word_flags}
use Rattle.link_lines_values.specs.Names.{Text, bracketed, named_number, text_in}
use Rattle.link_lines_values.proofs.NumbersDetermined.{bounded, reversed_bytes}
use Rattle.link_lines_texts.specs.Growth.{joined_size, longest}

-- ---- digits

onto_by : (b : Bool) (j k n : ℕ) (acc : List ℕ) → (n / 16 == 0) ≡ b → n < 16 ^ suc k → ((k m : ℕ) (a : List ℕ) → m < 16 ^ suc k → length (digits_onto j 16 false m a) ≤ suc k + length a) →
    length (if b then digit_glyph false (n % 16) ∷ acc else digits_onto j 16 false (n / 16) (digit_glyph false (n % 16) ∷ acc)) ≤ suc k + length acc
onto_by true j k n acc e h i = omega arith
onto_by false j zero n acc e h i = absurd (grind (arith, nat_tests))
onto_by false j (suc k) n acc e h i = omega (arith, i k (n / 16) (digit_glyph false (n % 16) ∷ acc) (omega (arith, h)))

onto_short : (j k n : ℕ) (acc : List ℕ) → n < 16 ^ suc k → length (digits_onto j 16 false n acc) ≤ suc k + length acc
onto_short zero k n acc h = omega arith
onto_short (suc j) k n acc h = onto_by (n / 16 == 0) j k n acc refl h (onto_short j)

pub hex_short : (k n : ℕ) → n < 16 ^ suc k → length (digits 16 false n) ≤ suc k
unfolding digits
hex_short k n h = omega (arith, onto_short 64 k n [] h)

-- ---- numbers of bytes

-- The sizes of numbers.
pub record IsSize (n : ℕ) : Type 0 where
  pub low : 1 ≤ n
  pub high : n ≤ 8

pub size_of : (n : ℕ) → ((n == 1) || ((n == 2) || ((n == 3) || ((n == 4) || (n == 8))))) ≡ true → IsSize n
size_of n h = record { low = grind (arith, nat_tests); high = grind (arith, nat_tests) }

pub decimal_short : (m n : ℕ) → IsSize m → n < 256 ^ m → length (decimal n) ≤ 3 * m
decimal_short zero n s h = absurd (omega (arith, s.low))
decimal_short (suc zero) n s h = length-decimal-le_wide 3 n (omega arith) (omega (arith, h)) (omega (arith, h))
decimal_short (suc (suc zero)) n s h = length-decimal-le_wide 6 n (omega arith) (omega (arith, h)) (omega (arith, h))
decimal_short (suc (suc (suc zero))) n s h = length-decimal-le_wide 9 n (omega arith) (omega (arith, h)) (omega (arith, h))
decimal_short (suc (suc (suc (suc zero)))) n s h = length-decimal-le_wide 12 n (omega arith) (omega (arith, h)) (omega (arith, h))
decimal_short (suc (suc (suc (suc (suc zero))))) n s h = length-decimal-le_wide 15 n (omega arith) (omega (arith, h)) (omega (arith, h))
decimal_short (suc (suc (suc (suc (suc (suc zero)))))) n s h = length-decimal-le_wide 18 n (omega arith) (omega (arith, h)) (omega (arith, h))
decimal_short (suc (suc (suc (suc (suc (suc (suc zero))))))) n s h = length-decimal-le_wide 21 n (omega arith) (omega (arith, h)) (omega (arith, h))
decimal_short (suc (suc (suc (suc (suc (suc (suc (suc zero)))))))) n s h = length-decimal-le_wide 24 n (omega arith) (omega (arith, h)) (omega (arith, h))
decimal_short (suc (suc (suc (suc (suc (suc (suc (suc (suc m))))))))) n s h = absurd (omega (arith, s.high))

pub hex_number_short : (m n : ℕ) → IsSize m → n < 256 ^ m → length (hex_number n) ≤ 2 + 2 * m
hex_number_short zero n s h = absurd (omega (arith, s.low))
hex_number_short (suc zero) n s h = omega (arith, hex_short 1 n (omega (arith, h)))
hex_number_short (suc (suc zero)) n s h = omega (arith, hex_short 3 n (omega (arith, h)))
hex_number_short (suc (suc (suc zero))) n s h = omega (arith, hex_short 5 n (omega (arith, h)))
hex_number_short (suc (suc (suc (suc zero)))) n s h = omega (arith, hex_short 7 n (omega (arith, h)))
hex_number_short (suc (suc (suc (suc (suc zero))))) n s h = omega (arith, hex_short 9 n (omega (arith, h)))
hex_number_short (suc (suc (suc (suc (suc (suc zero)))))) n s h = omega (arith, hex_short 11 n (omega (arith, h)))
hex_number_short (suc (suc (suc (suc (suc (suc (suc zero))))))) n s h = omega (arith, hex_short 13 n (omega (arith, h)))
hex_number_short (suc (suc (suc (suc (suc (suc (suc (suc zero)))))))) n s h = omega (arith, hex_short 15 n (omega (arith, h)))
hex_number_short (suc (suc (suc (suc (suc (suc (suc (suc (suc m))))))))) n s h = absurd (omega (arith, s.high))

pub number_small : (p : List ℕ) → AreBytes p → number p < 256 ^ length p
number_small p a = bounded (length p) p a (omega arith)

pub big_small : (p : List ℕ) → AreBytes p → big_endian p < 256 ^ length p
big_small p a = bounded (length p) (reverse p) (reversed_bytes p a) (omega (arith, length-reverse p))

-- ---- names

pub text_short : (texts : List Text) (n : ℕ) → length (text_in texts n) ≤ longest texts
text_short [] n = omega arith
text_short (r ∷ rs) n = cond_both (n == r.0) r.1 (text_in rs n) (λ s. length s ≤ longest (r ∷ rs)) (λ e. omega arith) (λ e. omega (arith, text_short rs n))

pub bracketed_short : (s : List ℕ) → length (bracketed s) ≤ 3 + length s
bracketed_short [] = omega arith
bracketed_short (c ∷ s) = omega (arith, length-append s (codes ")"))

pub name_short : (texts : List Text) (n : ℕ) → length (bracketed (text_in texts n)) ≤ 3 + longest texts
name_short texts n = omega (arith, bracketed_short (text_in texts n), text_short texts n)

pub named_short : (m : ℕ) (texts : List Text) (n : ℕ) → IsSize m → n < 256 ^ m → length (named_number texts n) ≤ 3 * m + 3 + longest texts
named_short m texts n s h = omega (arith, decimal_short m n s h, name_short texts n, length-append (decimal n) (bracketed (text_in texts n)))

-- ---- flags

separated_short : (names : List Text) (n : ℕ) → length (separated (names_set names n)) ≤ joined_size names
separated_short [] n = omega arith
separated_short (r ∷ rs) n =
    cond_both (bit_and n r.0 == 0) (names_set rs n) (r.1 ∷ names_set rs n) (λ ns. length (separated ns) ≤ joined_size (r ∷ rs)) (λ e. omega (arith, separated_short rs n))
    (λ e. omega (arith, separated_short rs n, length-append r.1 (separated (names_set rs n))))

-- Names after the bracket are no longer than after a separator.
opened_by : (names : List (List ℕ)) → length (opened names) ≤ length (separated names)
opened_by [] = omega arith
opened_by (name ∷ names) = omega arith

nameless_small : (names : List Text) (n : ℕ) → nameless names n ≤ n
nameless_small [] n = omega arith
nameless_small (r ∷ rs) n = omega (arith, nameless_small rs (n - bit_and n r.0))

nameless_short : (m n : ℕ) → IsSize m → n < 256 ^ m → length (nameless_text n) ≤ 5 + 2 * m
nameless_short m n s h = cond_both (n == 0) [] (codes " | " ++ hex_number n) (λ t. length t ≤ 5 + 2 * m) (λ e. omega arith) (λ e. omega (arith, hex_number_short m n s h))

pub listed_short : (m : ℕ) (names : List Text) (n : ℕ) → IsSize m → n < 256 ^ m → length (listed (names_set names n) (nameless names n)) ≤ joined_size names + 6 + 2 * m
listed_short m names n s h =
    let rest = nameless names n in
    let small = nameless_small names n in
    cond_both (has_none (names_set names n)) [] (opened (names_set names n) ++ (nameless_text rest ++ codes ")")) (λ t. length t ≤ joined_size names + 6 + 2 * m) (λ e. omega arith)
    (λ e. omega (arith, opened_by (names_set names n), separated_short names n, nameless_short m rest s (omega (arith, small, h)), length-append (opened (names_set names n)) (nameless_text rest ++ codes ")"), length-append (nameless_text rest) (codes ")")))

pub flags_short : (m : ℕ) (names : List Text) (n : ℕ) → IsSize m → n < 256 ^ m → length (named_flags names n) ≤ joined_size names + 8 + 4 * m
flags_short m names n s h = omega (arith, hex_number_short m n s h, listed_short m names n s h, length-append (hex_number n) (listed (names_set names n) (nameless names n)))

pub word_flags_short : (m : ℕ) (names : List Text) (n : ℕ) → IsSize m → n < 256 ^ m → length (word_flags names n) ≤ joined_size names + 8 + 4 * m
word_flags_short m names n s h =
    let l = listed (names_set names n) (nameless names n) in
    cond_both (n == 4294967295) (codes " (all)") l (λ t. length (hex_number n ++ t) ≤ joined_size names + 8 + 4 * m)
    (λ e. omega (arith, hex_number_short m n s h, length-append (hex_number n) (codes " (all)"))) (λ e. omega (arith, hex_number_short m n s h, listed_short m names n s h, length-append (hex_number n) l))

-- The flags of some bytes.
pub flags_text_short : (names : List Text) (p : List ℕ) → AreBytes p → IsSize (length p) → length (flags_text names p) ≤ joined_size names + 8 + 4 * length p
flags_text_short names p a s =
    let h = number_small p a in
    cond_both (length p == 4) (word_flags names (number p)) (named_flags names (number p)) (λ t. length t ≤ joined_size names + 8 + 4 * length p) (λ e. word_flags_short (length p) names (number p) s h) (λ e. flags_short (length p) names (number p) s h)

-- ---- numbers with a sign

signed_by_short : (half n : ℕ) → half ≤ 2147483648 → length (signed_by half n) ≤ 13
signed_by_short half n l =
    cond_both (nat_lt n half) (decimal n) (45 ∷ decimal (half + half - n)) (λ t. length t ≤ 13) (λ e. omega (arith, length-decimal-le 12 n (omega arith) (omega (arith, ltb-true n half e, l)) (omega (arith, ltb-true n half e, l))))
    (λ e. omega (arith, length-decimal-le 12 (half + half - n) (omega arith) (omega (arith, l)) (omega (arith, l))))

-- Half of the numbers of 8 bytes.
abbrev half_of_eight : ℕ
half_of_eight = 9223372036854775808

wide_short : (n : ℕ) → length (signed_by half_of_eight n) ≤ 21
wide_short n =
    cond_both (nat_lt n half_of_eight) (decimal n) (45 ∷ decimal (half_of_eight + half_of_eight - n)) (λ t. length t ≤ 21)
    (λ e. omega (arith, length-decimal-le 20 n (omega arith) (omega (arith, ltb-true n half_of_eight e)) (omega (arith, ltb-true n half_of_eight e))))
    (λ e. omega (arith, length-decimal-le 20 (half_of_eight + half_of_eight - n) (omega arith) (omega (arith, ltb-false n half_of_eight e)) (omega (arith, ltb-false n half_of_eight e))))

-- A number of this size with a sign is short enough.
abbrev IsSignedShort : ℕ → ℕ → ℕ → Type 0
IsSignedShort size n half = length (signed_by half n) ≤ 2 * size + 13

pub signed_short : (size n : ℕ) → IsSignedShort size n (half_of size)
signed_short size n =
    cond_both (size == 1) 128 _ (IsSignedShort size n) (λ e. omega (arith, signed_by_short 128 n (omega arith)))
    (λ e. cond_both (size == 2) 32768 _ (IsSignedShort size n) (λ f. omega (arith, signed_by_short 32768 n (omega arith)))
    (λ f. cond_both (size == 8) half_of_eight 2147483648 (IsSignedShort size n) (λ g. omega (arith, wide_short n, eqb-true size 8 g)) (λ g. omega (arith, signed_by_short 2147483648 n (omega arith)))))
