-- No value of a raw attribute's payload begins as the word for bytes does.
use Rattle.std.proofs.Common.{◌≡◌, ℕ, zero, suc, ◌+◌, ◌*◌, ◌/◌, ◌%◌, ◌^◌, ◌<◌, ◌⊎◌, inl, inr, Bool, true, false, List, [], ◌∷◌, ◌++◌, length, take, drop, refl, sym, ap, subst, ◌∙◌, arith, append_assoc}
use Rattle.std.specs.Prelude.{◌==◌, ◌&&◌, codes, cond, decimal, get_or, nat_lt, not}
use Rattle.std.proofs.lemmas.Bool.{and_parts, eqb-true}
use Rattle.std.proofs.lemmas.Bool.Decides.{nat_tests}
use Rattle.std.proofs.lemmas.List.{length-take}
use Rattle.netlink_packet_core_grammar.specs.Bytes.{AreBytes}
use Rattle.attribute_tables_grammar.specs.Shapes.{number}
use Rattle.netlink_packet_core_grammar.proofs.Bytes.{AreBytes-take}
use Rattle.link_lines_values.specs.declared.exact.ExactBy.TheVariants as E
use Rattle.link_lines_values.specs.declared.values.ShownBy.TheVariants as V
use Rattle.link_lines_values.specs.Bytes.{address_text, bytes_text, is_zero, quoted}
use Rattle.link_lines_values.specs.Digits.{big_endian}
use Rattle.link_lines_values.specs.Exact.{Exact, begins_with_word, bridge_id_text, determines_exact, exact_text, has_no_space, labels_text, more_labels_text, numbers_text, pieces_text, takes, via_text}
use Rattle.link_lines_values.specs.Laws.{BeginsWithSpace}
use Rattle.link_lines_values.specs.Records.{Field, counters_text, field_value, fields_text, is_counters, is_padding, is_size, lacks_byte}
use Rattle.link_lines_values.specs.Values.{determines_sized, is_shown_on_a_line, number_value}
use Rattle.link_lines_values.proofs.ExactPieces.{label_shown, number_shown, small_label}
use Rattle.link_lines_values.proofs.ExactTaken.{UintSize, ViaSize, bridge_id_shown, counters_parts, either_size, multiple, numbers_shown, record_parts, sizes_of_numbers, uint_size, via_16, via_16_shown, via_4, via_4_shown, via_size, whole_labels}
use Rattle.link_lines_values.proofs.NumbersDetermined.{lowest_first, sized}
use Rattle.link_lines_values.proofs.SizedDetermined.{digits_low, sized_determined}

-- ---- the second byte of the word is over the digits, the third over the hex digits

other_second : (t s : List ℕ) → get_or t 1 0 < 98 → t ≡ codes " bytes" ++ s → ⊥
other_second t s h e = let z : get_or t 1 0 ≡ 98 = ap (λ l. get_or l 1 0) e in omega (arith, h, z)

other_third : (t s : List ℕ) → get_or t 2 0 < 121 → t ≡ codes " bytes" ++ s → ⊥
other_third t s h e = let z : get_or t 2 0 ≡ 121 = ap (λ l. get_or l 2 0) e in omega (arith, h, z)

glyph_by : (t : Bool) (d : ℕ) → d < 16 → cond t (48 + d) (87 + d) < 121
glyph_by true d h = omega arith
glyph_by false d h = omega arith

glyph_low : (b : ℕ) → cond (nat_lt (b % 16) 10) (48 + b % 16) (87 + b % 16) < 121
glyph_low b = glyph_by (nat_lt (b % 16) 10) (b % 16) (omega arith)

bytes : (p s : List ℕ) → bytes_text p ≡ codes " bytes" ++ s → ⊥
bytes [] s e = absurd cc
bytes (b ∷ p) s e = other_third (bytes_text (b ∷ p)) s (glyph_low b) e

-- ---- addresses

address : (p s : List ℕ) → (length p ≡ 4) ⊎ (length p ≡ 16) → AreBytes p → address_text p ≡ codes " bytes" ++ s → ⊥
address p s (inl l) a e = sized_determined.apart 4 V.Address p s refl a l e
address p s (inr l) a e = sized_determined.apart 16 V.Address p s refl a l e

-- ---- numbers

uint : (p s : List ℕ) → UintSize p → AreBytes p → number_value [] p ≡ codes " bytes" ++ s → ⊥
uint p s (inl l) a e = sized_determined.apart 4 (V.Number []) p s refl a l e
uint p s (inr l) a e = sized_determined.apart 8 (V.Number []) p s refl a l.0 e

digits_joined : (n : ℕ) (s t : List ℕ) → n < 2 ^ 64 → get_or ((decimal n ++ s) ++ t) 0 0 < 98
digits_joined n s t h = subst (λ z. get_or z 0 0 < 98) (sym (append_assoc (decimal n) s t)) (digits_low n (s ++ t) h)

some_numbers_low : (n k : ℕ) (p : List ℕ) → is_size n ≡ true → length p ≡ k * n → AreBytes p → get_or (pieces_text (number_value []) n k p) 1 0 < 98
some_numbers_low n zero p h l a = omega arith
some_numbers_low n (suc k) p h l a =
    let part = take n p in
    let size : length part ≡ n = omega (arith, l, length-take n p) in
    let shown = number_shown part (ap is_size size ∙ h) in
    let more = pieces_text (number_value []) n k (drop n p) in
    let low = digits_joined (number part) _ more (lowest_first.small part (AreBytes-take n p a) (omega (arith, size, sized n h))) in
    subst (λ z. get_or (z ++ more) 1 0 < 98) (sym shown) low

pub numbers_low : (n : ℕ) (p : List ℕ) → is_size n ≡ true → takes (E.Numbers n) p ≡ true → AreBytes p → get_or (numbers_text n p) 1 0 < 98
numbers_low n p h k a =
    let l = multiple (length p) n (and_parts (nat_lt 0 n) (length p % n == 0) k).1 in
    subst (λ z. get_or z 1 0 < 98) (sym (numbers_shown n p h)) (some_numbers_low n (length p / n) p h l a)

-- ---- others

bridge_id : (p s : List ℕ) → takes E.BridgeId p ≡ true → bridge_id_text p ≡ codes " bytes" ++ s → ⊥
bridge_id [] s h e = absurd cc
bridge_id (b ∷ p) s h e =
    let shown = bridge_id_shown (b ∷ p) h in
    other_third _ s (glyph_low b) (sym shown ∙ e)

pub labels_low : (p : List ℕ) → takes E.Labels p ≡ true → AreBytes p → get_or (labels_text p) 1 0 < 98
labels_low p h a =
    let first = take 4 p in
    let size = (whole_labels p h).0 in
    let n = big_endian first in
    let more = more_labels_text (drop 4 p) in
    let low = digits_joined (n / 4096) _ more (omega (arith, small_label first (AreBytes-take 4 p a) size)) in
    subst (λ z. get_or (z ++ more) 0 0 < 98) (sym (label_shown first size)) low

via : (p s : List ℕ) → ViaSize p → via_text p ≡ codes " bytes" ++ s → ⊥
via p s (inl l) e = other_third (via_4 p) s (omega arith) (sym (via_4_shown p l.0) ∙ e)
via p s (inr l) e = other_third (via_16 p) s (omega arith) (sym (via_16_shown p l.0) ∙ e)

quoted_apart : (p s : List ℕ) → 32 ∷ quoted p ≡ codes " bytes" ++ s → ⊥
quoted_apart p s e = other_second (32 ∷ quoted p) s (omega arith) e

-- ---- records

-- A word and a sign of equality aren't another word, which a space follows or nothing.
other_word : (n w s t : List ℕ) → has_no_space n ≡ true → lacks_byte 61 w ≡ true → BeginsWithSpace s → n ++ 61 ∷ t ≡ w ++ s → ⊥
other_word [] [] [] t h k b e = absurd cc
other_word [] [] (d ∷ s) t h k b e = let first : 61 ≡ d = cc in omega (arith, first, b)
other_word [] (d ∷ w) s t h k b e = let first : 61 ≡ d = cc in let other = (and_parts (not (d == 61)) (lacks_byte 61 w) k).0 in absurd (grind (arith, nat_tests))
other_word (c ∷ n) [] [] t h k b e = absurd cc
other_word (c ∷ n) [] (d ∷ s) t h k b e = let first : c ≡ d = cc in let other = (and_parts (not (c == 32)) (has_no_space n) h).0 in absurd (grind (arith, nat_tests))
other_word (c ∷ n) (d ∷ w) s t h k b e = other_word n w s t (and_parts (not (c == 32)) (has_no_space n) h).1 (and_parts (not (d == 61)) (lacks_byte 61 w) k).1 b (ap (drop 1) e)

first_shown : (t u : Bool) (n v r w s : List ℕ) → not t ≡ true → has_no_space n ≡ true → lacks_byte 61 w ≡ true → BeginsWithSpace s →
    cond (t && u) [] (32 ∷ (n ++ 61 ∷ v)) ++ r ≡ 32 ∷ (w ++ s) → ⊥
first_shown true u n v r w s z h k b e = absurd cc
first_shown false u n v r w s z h k b e = other_word n w s (v ++ r) h k b (sym (append_assoc n (61 ∷ v) r) ∙ ap (drop 1) e)

-- No record begins with a word that a space follows, or nothing.
pub record_apart : (fs : List Field) (p w s : List ℕ) → begins_with_word fs ≡ true → lacks_byte 61 w ≡ true → BeginsWithSpace s → fields_text 61 false fs p ≡ 32 ∷ (w ++ s) → ⊥
record_apart [] p w s h k b e = absurd cc
record_apart (f ∷ fs) p w s h k b e =
    let parts = and_parts (not (is_padding f.2)) (has_no_space f.0) h in
    first_shown (is_padding f.2) (is_zero (take f.1 p)) f.0 (field_value f.2 (take f.1 p)) (fields_text 61 false fs (drop f.1 p)) w s parts.0 parts.1 k b e

pub counters_second : (fs : List Field) (p : List ℕ) → is_counters fs p ≡ true → get_or (counters_text fs p) 1 0 ≡ 102
counters_second [] p h = absurd cc
counters_second (f ∷ fs) p h = refl

counters : (fs : List Field) (p s : List ℕ) → is_counters fs p ≡ true → counters_text fs p ≡ codes " bytes" ++ s → ⊥
counters fs p s h e = let z : get_or (counters_text fs p) 1 0 ≡ 98 = ap (λ l. get_or l 1 0) e in omega (arith, z, counters_second fs p h)

-- ---- values

pub text_apart : (x : Exact) (p s : List ℕ) → determines_exact x ≡ true → takes x p ≡ true → AreBytes p → BeginsWithSpace s → exact_text x p ≡ codes " bytes" ++ s → ⊥
text_apart (E.Number n) p s h k a b e = sized_determined.apart n (V.Number []) p s h a (eqb-true (length p) n k) e
text_apart (E.Sized n v) p s h k a b e = sized_determined.apart n v p s (and_parts (determines_sized n v) (is_shown_on_a_line v) h).0 a (eqb-true (length p) n k) e
text_apart E.Bytes p s h k a b e = bytes p s e
text_apart E.HardwareAddress p s h k a b e = sized_determined.apart (length p) V.HardwareAddress p s refl a refl e
text_apart E.Address p s h k a b e = address p s (either_size (length p) 4 16 k) a e
text_apart E.Text p s h k a b e = quoted_apart p s e
text_apart E.Uint p s h k a b e = uint p s (uint_size p k) a e
text_apart (E.Numbers n) p s h k a b e = other_second _ s (numbers_low n p (sizes_of_numbers n h) k a) e
text_apart E.BridgeId p s h k a b e = bridge_id p s k e
text_apart E.Labels p s h k a b e = other_second _ s (labels_low p k a) e
text_apart E.Via p s h k a b e = via p s (via_size p k) e
text_apart (E.Record fs) p s h k a b e = record_apart fs p (codes "bytes") s (record_parts fs h).1.1.0 refl b e
text_apart (E.Counters fs) p s h k a b e = counters fs p s (counters_parts fs p k).0 e
