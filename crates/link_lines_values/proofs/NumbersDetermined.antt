-- The text of a number determines it.
use Rattle.std.proofs.Common.{◌≡◌, ℕ, zero, suc, ◌+◌, ◌-◌, ◌*◌, ◌/◌, ◌%◌, ◌^◌, ◌<◌, ◌≤◌, Bool, true, false, List, [], ◌∷◌, ◌++◌, length, drop, refl, sym, ap, subst, ◌∙◌, append_assoc, arith}
use Rattle.std.proofs.lemmas.List.{append_cancel_left, reverse-append, reverse-reverse, length-reverse}
use Rattle.std.proofs.lemmas.Bool.{cond_both, eqb-true, ltb-false}
use Rattle.std.specs.Prelude.{◌==◌, ◌&&◌, ◌||◌, codes, cond, nat_lt, reverse}
use Rattle.std.specs.List.{AllByRecursion}
use Rattle.std.specs.Fmt.{decimal, digit_glyph, digits, digits_onto}
use Rattle.std.proofs.lemmas.Fmt.{digits_is_IsNumeral, decimal_is_IsNumeral, decimal_injective}
use Rattle.std.specs.Str.Parse.{digits_value}
use Rattle.std.proofs.lemmas.Bool.Decides.{nat_tests}
use Rattle.netlink_packet_core_grammar.specs.Bytes.{AreBytes}
use Rattle.attribute_tables_grammar.specs.Shapes.{number}
use Rattle.link_lines_values.specs.Bytes.{bytes_text}
use Rattle.link_lines_values.specs.Digits.{big_endian, half_of, hex_number, is_number, is_signed_size, signed_by}
use Rattle.link_lines_values.specs.Flags.{listed, named_flags, nameless, nameless_flags, names_set, word_flags}
use Rattle.link_lines_values.specs.Laws.{BeginsWithSpace, DigitsAreDetermined, Ends, NumbersAreDetermined}
use Rattle.link_lines_values.specs.Names.{Text, bracketed, named_number, named_signed, text_in}
use Rattle.link_lines_values.specs.Values.{named_flags_value}
use Rattle.netlink_packet_core_grammar.proofs.Bytes.{AreBytes-append}

-- ---- digits end before a smaller byte

pub space_ends : (s : List ℕ) → BeginsWithSpace s → Ends s
space_ends [] h = record {}
space_ends (c ∷ s) h = omega (arith, h)

abbrev pub Digits : List ℕ → Type 0
Digits ds = AllByRecursion (λ c. 48 ≤ c) ds

pub cut : (a b s t : List ℕ) → Digits a → Digits b → Ends s → Ends t → a ++ s ≡ b ++ t → (a ≡ b) × (s ≡ t)
cut [] [] s t a b k l e = (refl, e)
cut [] (y ∷ b) (c ∷ s) t a h k l e = let first : c ≡ y = cc in absurd (omega (arith, h.0))
cut (x ∷ a) [] s (c ∷ t) h b k l e = let first : x ≡ c = cc in absurd (omega (arith, h.0))
cut (x ∷ a) (y ∷ b) s t h i k l e =
    let rest = cut a b s t h.1 i.1 k l (ap (drop 1) e) in
    (cc, rest.1)
cut a b s t h i k l e = absurd cc

pub high_glyph : (d : ℕ) → 48 ≤ digit_glyph false d
high_glyph d = cond_both (nat_lt d 10) (48 + d) (87 + d) (λ c. 48 ≤ c) (λ h. omega arith) (λ h. omega arith)

high_onto : (k base n : ℕ) (acc : List ℕ) → Digits acc → Digits (digits_onto k base false n acc)
high_onto zero base n acc h = h
high_onto (suc k) base n acc h =
    let more : Digits (digit_glyph false (n % base) ∷ acc) = (high_glyph (n % base), h) in
    cond_both (n / base == 0) _ _ Digits (λ e. more) (λ e. high_onto k base (n / base) _ more)

-- Digits are at least 48, in whichever base.
pub high : (base n : ℕ) → Digits (digits base false n)
unfolding digits
high base n = high_onto 64 base n [] (record {})

-- ---- the number at the start of a text

-- The text of a number below this bound determines it, and what follows it.
abbrev pub Determines : ℕ → (ℕ → List ℕ) → Type 0
Determines bound text = (m n : ℕ) (s t : List ℕ) → m < bound → n < bound → Ends s → Ends t → text m ++ s ≡ text n ++ t → (m ≡ n) × (s ≡ t)

pub decimal_determined : Determines (2 ^ 64) decimal
decimal_determined m n s t p q k l e =
    let r = cut (decimal m) (decimal n) s t (high 10 m) (high 10 n) k l e in
    (decimal_injective m n p q r.0, r.1)

hex_read : (n : ℕ) → n < 2 ^ 64 → n < 16 ^ 64
hex_read n h = omega arith

pub hex_determined : Determines (2 ^ 64) hex_number
hex_determined m n s t p q k l e =
    let a = digits_is_IsNumeral 16 false (omega arith) (omega arith) m (hex_read m p) in
    let b = digits_is_IsNumeral 16 false (omega arith) (omega arith) n (hex_read n q) in
    let r = cut (digits 16 false m) (digits 16 false n) s t (high 16 m) (high 16 n) k l (ap (drop 2) e) in
    (sym a.1 ∙ ap (digits_value 16) r.0 ∙ b.1, r.1)

-- What follows a first part.
pub following : (a x s b y t : List ℕ) → (a ++ x) ++ s ≡ (b ++ y) ++ t → a ++ (x ++ s) ≡ b ++ (y ++ t)
following a x s b y t e = sym (append_assoc a x s) ∙ e ∙ append_assoc b y t

-- A number that determines its name is determined together with it.
pub with_name : (bound : ℕ) (text name : ℕ → List ℕ) → Determines bound text → ((n : ℕ) (s : List ℕ) → Ends s → Ends (name n ++ s)) → Determines bound (λ n. text n ++ name n)
with_name bound text name determined ends m n s t p q k l e =
    let r = determined m n (name m ++ s) (name n ++ t) p q (ends m s k) (ends n t l) (following (text m) (name m) s (text n) (name n) t e) in
    (r.0, append_cancel_left (name m) s t (r.1 ∙ ap (λ n. name n ++ t) (sym r.0)))

pub bracket_ends : (name s : List ℕ) → Ends s → Ends (bracketed name ++ s)
bracket_ends [] s h = h
bracket_ends (c ∷ name) s h = omega arith

pub listed_ends : (names : List (List ℕ)) (rest : ℕ) (s : List ℕ) → Ends s → Ends (listed names rest ++ s)
listed_ends [] rest s h = h
listed_ends (name ∷ names) rest s h = omega arith

pub named_determined : (texts : List Text) → Determines (2 ^ 64) (named_number texts)
named_determined texts = with_name (2 ^ 64) decimal (λ n. bracketed (text_in texts n)) decimal_determined (λ n. bracket_ends (text_in texts n))

pub flags_determined : (names : List Text) → Determines (2 ^ 64) (named_flags names)
flags_determined names = with_name (2 ^ 64) hex_number (λ n. listed (names_set names n) (nameless names n)) hex_determined (λ n. listed_ends (names_set names n) (nameless names n))

all_ends : (t : Bool) (names : List (List ℕ)) (rest : ℕ) (s : List ℕ) → Ends s → Ends (cond t (codes " (all)") (listed names rest) ++ s)
all_ends true names rest s h = omega arith
all_ends false names rest s h = listed_ends names rest s h

pub word_determined : (names : List Text) → Determines (2 ^ 64) (word_flags names)
word_determined names =
    with_name (2 ^ 64) hex_number (λ n. cond (n == 4294967295) (codes " (all)") (listed (names_set names n) (nameless names n))) hex_determined
    (λ n. all_ends (n == 4294967295) (names_set names n) (nameless names n))

all_or_nothing : (t : Bool) (s : List ℕ) → Ends s → Ends (cond t (codes " (all)") [] ++ s)
all_or_nothing true s h = omega arith
all_or_nothing false s h = h

pub nameless_determined : (is_word : Bool) → Determines (2 ^ 64) (nameless_flags is_word)
nameless_determined is_word =
    with_name (2 ^ 64) hex_number (λ n. cond (is_word && (n == 4294967295)) (codes " (all)") []) hex_determined (λ n. all_or_nothing (is_word && (n == 4294967295)))

-- Flags of a size that determines whether they may be shown as all.
abbrev pub flags_of : Bool → List Text → ℕ → List ℕ
flags_of is_word names n = cond is_word (word_flags names n) (named_flags names n)

pub flags_of_determined : (is_word : Bool) (names : List Text) → Determines (2 ^ 64) (flags_of is_word names)
flags_of_determined true names = word_determined names
flags_of_determined false names = flags_determined names

-- ---- numbers of bytes

pub same_parts : (x y a b : ℕ) → x < 256 → y < 256 → x + 256 * a ≡ y + 256 * b → (x ≡ y) × (a ≡ b)
same_parts x y a b p q e = (omega arith, omega arith)

pub number_determined : (p q : List ℕ) → AreBytes p → AreBytes q → length p ≡ length q → number p ≡ number q → p ≡ q
number_determined [] [] a b l e = refl
number_determined (x ∷ p) (y ∷ q) a b l e =
    let k = same_parts x y (number p) (number q) a.0 b.0 e in
    let rest : p ≡ q = number_determined p q a.1 b.1 (omega arith) k.1 in
    cc
number_determined p q a b l e = absurd (omega arith)

pub bounded : (n : ℕ) (p : List ℕ) → AreBytes p → length p ≤ n → number p < 256 ^ n
bounded zero [] a l = omega arith
bounded zero (x ∷ p) a l = absurd (omega arith)
bounded (suc n) [] a l = omega (arith, bounded n [] a (omega arith))
bounded (suc n) (x ∷ p) a l = omega (arith, bounded n p a.1 (omega arith), a.0)

pub reversed_bytes : (p : List ℕ) → AreBytes p → AreBytes (reverse p)
reversed_bytes [] a = record {}
reversed_bytes (x ∷ p) a = subst AreBytes (sym (reverse-append (x ∷ []) p)) (AreBytes-append (reverse p) (x ∷ []) (reversed_bytes p a.1) (a.0, record {}))

-- A number of at most 8 bytes that determines them.
pub record Reads (value : List ℕ → ℕ) : Type 0 where
  pub small : (p : List ℕ) → AreBytes p → length p ≤ 8 → value p < 2 ^ 64
  pub determined : (p q : List ℕ) → AreBytes p → AreBytes q → length p ≡ length q → value p ≡ value q → p ≡ q

pub lowest_first : Reads number
lowest_first = record {
  small = λ p a l. omega (arith, bounded 8 p a l);
  determined = number_determined;
}

pub highest_first : Reads big_endian
highest_first = record {
  small = λ p a l. omega (arith, bounded 8 (reverse p) (reversed_bytes p a) (omega (arith, length-reverse p)));
  determined = λ p q a b l e.
      sym (reverse-reverse p) ∙ ap reverse (number_determined (reverse p) (reverse q) (reversed_bytes p a) (reversed_bytes q b) (length-reverse p ∙ l ∙ sym (length-reverse q)) e) ∙ reverse-reverse q;
}

pub sized : (n : ℕ) → ((n == 1) || ((n == 2) || ((n == 3) || ((n == 4) || (n == 8))))) ≡ true → n ≤ 8
sized n h = grind (arith, nat_tests)

pub same_size : (p q : List ℕ) → length p ≡ length q → is_number p ≡ true → is_number q ≡ true
same_size p q l h = ap (λ n. (n == 1) || ((n == 2) || ((n == 3) || ((n == 4) || (n == 8))))) (sym l) ∙ h

module _ (value : List ℕ → ℕ) (reads : Reads value) (text : ℕ → List ℕ) (determined : Determines (2 ^ 64) text) where
  -- Bytes are determined by their number, and so is what follows it.
  pub number_and_rest : (p q s t : List ℕ) → AreBytes p → AreBytes q → length p ≤ 8 → length p ≡ length q → Ends s → Ends t → text (value p) ++ s ≡ text (value q) ++ t → (p ≡ q) × (s ≡ t)
  number_and_rest p q s t a b h l i j e =
      let r = determined (value p) (value q) s t (reads.small p a h) (reads.small q b (omega arith)) i j e in
      (reads.determined p q a b l r.0, r.1)

  -- A number after a space.
  pub number_only : (p q : List ℕ) → AreBytes p → AreBytes q → length p ≤ 8 → length p ≡ length q → 32 ∷ text (value p) ≡ 32 ∷ text (value q) → p ≡ q
  number_only p q a b h l e = (number_and_rest p q [] [] a b h l (record {}) (record {}) (ap (λ z. drop 1 z ++ []) e)).0

  -- A number that is shown if the bytes have the size of one.
  pub sized_number : (p q : List ℕ) → AreBytes p → AreBytes q → length p ≡ length q → is_number p ≡ true →
      cond (is_number p) (32 ∷ text (value p)) (bytes_text p) ≡ cond (is_number q) (32 ∷ text (value q)) (bytes_text q) → p ≡ q
  sized_number p q a b l h e = let k = same_size p q l h in number_only p q a b (sized (length p) h) l (rw (h, k) at e)

-- ---- numbers with a sign

-- No digits begin with a minus.
pub no_minus : (ds s t : List ℕ) → Digits ds → 0 < length ds → ds ++ s ≡ 45 ∷ t → ⊥
no_minus [] s t h l e = omega arith
no_minus (x ∷ ds) s t h l e = let first : x ≡ 45 = cc in omega (arith, h.0)

pub decimal_is_some : (n : ℕ) → n < 2 ^ 64 → 0 < length (decimal n)
decimal_is_some n h = (decimal_is_IsNumeral n h).0.0

pub signed_at : (half m n : ℕ) (a b : Bool) → nat_lt m half ≡ a → nat_lt n half ≡ b → half ≤ 9223372036854775808 → (s t : List ℕ) → m < half + half → n < half + half → Ends s → Ends t →
    cond a (decimal m) (45 ∷ decimal (half + half - m)) ++ s ≡ cond b (decimal n) (45 ∷ decimal (half + half - n)) ++ t → (m ≡ n) × (s ≡ t)
signed_at half m n true true h k l s t p q i j e = decimal_determined m n s t (omega arith) (omega arith) i j e
signed_at half m n true false h k l s t p q i j e = absurd (no_minus (decimal m) s (decimal (half + half - n) ++ t) (high 10 m) (decimal_is_some m (omega arith)) e)
signed_at half m n false true h k l s t p q i j e = absurd (no_minus (decimal n) t (decimal (half + half - m) ++ s) (high 10 n) (decimal_is_some n (omega arith)) (sym e))
signed_at half m n false false h k l s t p q i j e =
    let r = decimal_determined (half + half - m) (half + half - n) s t (omega (arith, ltb-false m half h)) (omega (arith, ltb-false n half k)) i j (ap (drop 1) e) in
    (omega (arith, r.0), r.1)

-- Half of the numbers of a size, by whether it is 1, 2 or 8.
abbrev half_by : Bool → Bool → Bool → ℕ
half_by a b c = cond a 128 (cond b 32768 (cond c 9223372036854775808 2147483648))

or_neither : (t : Bool) → (t || false) ≡ true → t ≡ true
or_neither true h = refl
or_neither false h = h

signed_half_by : (size : ℕ) (a b c : Bool) → (size == 1) ≡ a → (size == 2) ≡ b → (size == 8) ≡ c → (a || (b || ((size == 4) || c))) ≡ true →
    (256 ^ size ≡ half_by a b c + half_by a b c) × (half_by a b c ≤ 9223372036854775808)
signed_half_by size true b c h k i l = (ap (λ n. 256 ^ n) (eqb-true size 1 h), omega arith)
signed_half_by size false true c h k i l = (ap (λ n. 256 ^ n) (eqb-true size 2 k), omega arith)
signed_half_by size false false true h k i l = (ap (λ n. 256 ^ n) (eqb-true size 8 i), omega arith)
signed_half_by size false false false h k i l = (ap (λ n. 256 ^ n) (eqb-true size 4 (or_neither (size == 4) l)), omega arith)

signed_half : (size : ℕ) → is_signed_size size ≡ true → (256 ^ size ≡ half_of size + half_of size) × (half_of size ≤ 9223372036854775808)
signed_half size h = signed_half_by size _ _ _ refl refl refl h

-- A number with a sign determines its bytes, of a size that such numbers have, and what follows it.
pub signed_and_rest : (p q s t : List ℕ) → AreBytes p → AreBytes q → length p ≡ length q → is_signed_size (length p) ≡ true → Ends s → Ends t →
    signed_by (half_of (length p)) (number p) ++ s ≡ signed_by (half_of (length q)) (number q) ++ t → (p ≡ q) × (s ≡ t)
signed_and_rest p q s t a b l h m n e =
    let size = length p in
    let both = signed_half size h in
    let low_p : number p < half_of size + half_of size = subst (λ x. number p < x) both.0 (bounded size p a (omega arith)) in
    let low_q : number q < half_of size + half_of size = subst (λ x. number q < x) both.0 (bounded size q b (omega (arith, l))) in
    let r = signed_at (half_of size) (number p) (number q) _ _ refl refl both.1 s t low_p low_q m n (rw (sym l) at e) in
    (number_determined p q a b l r.0, r.1)

pub four : (p : List ℕ) → AreBytes p → length p ≡ 4 → number p < 4294967296
four p a l = omega (arith, bounded 4 p a (omega arith))

name_ends : (name : List ℕ) → Ends (bracketed name)
name_ends [] = record {}
name_ends (c ∷ name) = omega arith

signed : (texts : List Text) (p q : List ℕ) → AreBytes p → AreBytes q → length p ≡ length q → is_signed_size (length p) ≡ true →
    cond (is_signed_size (length p)) (32 ∷ named_signed texts (length p) (number p)) (bytes_text p)
    ≡ cond (is_signed_size (length q)) (32 ∷ named_signed texts (length q) (number q)) (bytes_text q) → p ≡ q
signed texts p q a b l h e =
    let k : is_signed_size (length q) ≡ true = ap is_signed_size (sym l) ∙ h in
    let m = text_in texts (number p) in
    let n = text_in texts (number q) in
    (signed_and_rest p q (bracketed m) (bracketed n) a b l h (name_ends m) (name_ends n) (ap (drop 1) (rw (h, k) at e))).0

-- ---- sets of flags

flags : (names : List Text) (p q : List ℕ) → AreBytes p → AreBytes q → length p ≡ length q → is_number p ≡ true →
    named_flags_value names p ≡ named_flags_value names q → p ≡ q
flags names p q a b l h e =
    sized_number number lowest_first (flags_of (length p == 4) names) (flags_of_determined (length p == 4) names) p q a b l h
    (e ∙ ap (λ k. cond (is_number q) (32 ∷ flags_of (k == 4) names (number q)) (bytes_text q)) (sym l))

pub numbers_determined : NumbersAreDetermined
numbers_determined = record {
  little = λ texts. sized_number number lowest_first (named_number texts) (named_determined texts);
  big = λ texts. sized_number big_endian highest_first (named_number texts) (named_determined texts);
  signed = signed;
  flags = flags [];
  named_flags = flags;
}

pub digits_are : DigitsAreDetermined
digits_are = record { decimal_digits = decimal_determined; hex_digits = hex_determined }
