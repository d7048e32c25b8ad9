-- The text of counters determines them.
use Rattle.std.proofs.Common.{◌≡◌, ℕ, zero, suc, ◌+◌, ◌*◌, ◌/◌, ◌%◌, ◌^◌, ◌<◌, ◌≤◌, Bool, true, false, List, [], ◌∷◌, ◌++◌, length, take, drop, refl, sym, ap, ◌∙◌, arith}
use Rattle.std.specs.Prelude.{◌==◌, ◌&&◌, ◌||◌, bytes_eq, not}
use Rattle.std.specs.Fmt.{decimal}
use Rattle.std.specs.Str.Parse.{AllDigits, digits_value}
use Rattle.std.proofs.lemmas.Bool.{and_from, and_parts, eqb-true, not-true, true≢false}
use Rattle.std.proofs.lemmas.Bool.Decides.{nat_tests}
use Rattle.std.proofs.lemmas.Fmt.{decimal_injective, decimal_is_IsNumeral}
use Rattle.std.proofs.Math.Nat.{div-le_self}
use Rattle.std.proofs.lemmas.List.{length-take, length-drop}
use Rattle.std.proofs.lemmas.Nat.{div-add-mod'}
use Rattle.std.proofs.lemmas.Slice.Eq.{bytes_eq-Decides}
use Rattle.std.proofs.lemmas.Str.Parse.{digit_from_value}
use Rattle.netlink_packet_core_grammar.specs.Bytes.{AreBytes}
use Rattle.link_lines_values.specs.declared.fields.FieldShownBy.TheVariants as S
use Rattle.link_lines_values.specs.Bytes.{is_zero}
use Rattle.link_lines_values.specs.Laws.{CountersAreDetermined, Ends, IsKnown, NonzeroCountersAreDetermined}
use Rattle.link_lines_values.specs.Records.{Field, FieldShown, begins_with_digit, counter_name, has_own_indexes, has_size, is_counter, lacks, lacks_byte, names_apart, slots_text, title_or}
use Rattle.link_lines_values.proofs.NumbersDetermined.{decimal_determined, space_ends}
use Rattle.link_lines_values.proofs.OneLine.{slots_space}
use Rattle.link_lines_values.proofs.RecordsDetermined.{absent_by, no_items, optional_field}
use Rattle.link_lines_values.proofs.ValuesDetermined.{both_parts}
use Rattle.netlink_packet_core_grammar.proofs.Bytes.{AreBytes-drop, AreBytes-take}

-- ---- numbers as names

no_sign : (c : ℕ) → c ≤ 57 → not (c == 61) ≡ true
no_sign c h = grind (arith, nat_tests)

digits_plain : (ds : List ℕ) → AllDigits 10 ds → lacks_byte 61 ds ≡ true
digits_plain [] h = refl
digits_plain (c ∷ ds) h = and_from (not (c == 61)) (lacks_byte 61 ds) (no_sign c (digit_from_value c h.0).1) (digits_plain ds h.1)

digit_by : (c : ℕ) (s : List ℕ) → 48 ≤ c → c ≤ 57 → begins_with_digit (c ∷ s) ≡ true
digit_by c s h k = grind (arith, nat_tests)

begins : (ds : List ℕ) → 0 < length ds → AllDigits 10 ds → begins_with_digit ds ≡ true
begins [] l h = absurd (omega arith)
begins (c ∷ ds) l h = let r = digit_from_value c h.0 in digit_by c ds r.0 r.1

second : (b c : Bool) → b ≡ true → (not b || c) ≡ true → c ≡ true
second true c h k = k
second false c h k = absurd cc

-- Whether a title is a number only if it is its own index.
abbrev is_own : ℕ → List ℕ → Bool
is_own i name = not (begins_with_digit name) || (digits_value 10 name == i)

-- A number that is a title is the title's index.
own_number : (i n : ℕ) → n < 2 ^ 64 → is_own i (decimal n) ≡ true → n ≡ i
own_number i n s h =
    let d = decimal_is_IsNumeral n s in
    sym d.1 ∙ eqb-true (digits_value 10 (decimal n)) i (second (begins_with_digit (decimal n)) _ (begins (decimal n) d.0.0 d.0.1) h)

-- ---- names of counters

later : (name : List ℕ) (i : ℕ) (fs : List Field) (m b : ℕ) → i < m → m < 2 ^ 64 → lacks name fs ≡ true → is_own i name ≡ true → title_or fs m b ≡ name → ⊥
later name i [] m b l s h o e = omega (arith, own_number i m s (ap (is_own i) e ∙ o), l)
later name i (f ∷ fs) m zero l s h o e =
    let different = (and_parts (not (bytes_eq f.0 name)) (lacks name fs) h).0 in
    true≢false (sym ((bytes_eq-Decides f.0 name).1 e) ∙ not-true (bytes_eq f.0 name) different)
later name i (f ∷ fs) m (suc b) l s h o e = later name i fs m b l s (and_parts (not (bytes_eq f.0 name)) (lacks name fs) h).1 o e

differ : (fs : List Field) (base a b n m : ℕ) → n ≡ base + a → m ≡ base + b → a < b → m < 2 ^ 64 → names_apart 61 fs ≡ true → has_own_indexes base fs ≡ true → title_or fs m b ≡ title_or fs n a → ⊥
differ [] base a b n m x y l s h o e = omega (arith, decimal_injective m n s (omega arith) e)
differ (f ∷ fs) base a zero n m x y l s h o e = absurd (omega arith)
differ (f ∷ fs) base zero (suc b) n m x y l s h o e =
    let named = and_parts (lacks_byte 61 f.0) (lacks f.0 fs && names_apart 61 fs) h in
    later f.0 base fs m b (omega arith) s (and_parts (lacks f.0 fs) (names_apart 61 fs) named.1).0 (and_parts (is_own base f.0) (has_own_indexes (suc base) fs) o).0 e
differ (f ∷ fs) base (suc a) (suc b) n m x y l s h o e =
    let named = and_parts (lacks_byte 61 f.0) (lacks f.0 fs && names_apart 61 fs) h in
    differ fs (suc base) a b n m (omega arith) (omega arith) (omega arith) s (and_parts (lacks f.0 fs) (names_apart 61 fs) named.1).1 (and_parts (is_own base f.0) (has_own_indexes (suc base) fs) o).1 e

plain_name : (fs : List Field) (n k : ℕ) → n < 2 ^ 64 → names_apart 61 fs ≡ true → lacks_byte 61 (title_or fs n k) ≡ true
plain_name [] n k s h = digits_plain (decimal n) (decimal_is_IsNumeral n s).0.1
plain_name (f ∷ fs) n zero s h = (and_parts (lacks_byte 61 f.0) (lacks f.0 fs && names_apart 61 fs) h).0
plain_name (f ∷ fs) n (suc k) s h = plain_name fs n k s (and_parts (lacks f.0 fs) (names_apart 61 fs) (and_parts (lacks_byte 61 f.0) (lacks f.0 fs && names_apart 61 fs) h).1).1

-- ---- counters, one after the other

module _ (size : ℕ) (v : FieldShown) (fs : List Field) (apart : names_apart 61 fs ≡ true) where
  absent_slots : (n : List ℕ) (i k : ℕ) (p r : List ℕ) → lacks_byte 61 n ≡ true → i + k < 2 ^ 64 → ((j : ℕ) → i ≤ j → j < i + k → counter_name fs j ≡ n → ⊥) → slots_text size v fs i k p ≡ 32 ∷ (n ++ 61 ∷ r) → ⊥
  absent_slots n i zero p r h s other e = absurd cc
  absent_slots n i (suc k) p r h s other e =
      absent_by 61 n (counter_name fs i, size, v) (slots_text size v fs (suc i) k (drop size p)) r (take size p) (is_zero (take size p)) h (plain_name fs i i (omega arith) apart)
      (other i (omega arith) (omega arith)) (absent_slots n (suc i) k (drop size p) r h (omega arith) (λ j a b. other j (omega arith) (omega arith))) e

  slots_determined : has_own_indexes 0 fs ≡ true → has_size v size ≡ true → ((p : List ℕ) → IsKnown v p) → (i k : ℕ) (p q : List ℕ) → i + k < 2 ^ 64 → AreBytes p → AreBytes q → length p ≡ k * size → length q ≡ k * size →
      slots_text size v fs i k p ≡ slots_text size v fs i k q → p ≡ q
  slots_determined own z known i zero p q s a b l m e = no_items p q (omega (arith, l)) (omega (arith, m))
  slots_determined own z known i (suc k) p q s a b l m e =
      let prefix_p : length (take size p) ≡ size = omega (arith, length-take size p, l) in
      let prefix_q : length (take size q) ≡ size = omega (arith, length-take size q, m) in
      let missing : (x r : List ℕ) → slots_text size v fs (suc i) k x ≡ 32 ∷ (counter_name fs i ++ 61 ∷ r) → ⊥ =
      λ x r. absent_slots (counter_name fs i) (suc i) k x r (plain_name fs i i (omega arith) apart) (omega arith) (λ j f g. differ fs 0 i j i j (omega arith) (omega arith) (omega arith) (omega arith) apart own) in
      let r = optional_field 61 (counter_name fs i, size, v) (take size p) (take size q) (slots_text size v fs (suc i) k (drop size p)) (slots_text size v fs (suc i) k (drop size q)) (is_zero (take size p)) (is_zero (take size q))
      (λ y. y) (λ y. y) (AreBytes-take size p a) (AreBytes-take size q b) (prefix_p ∙ sym prefix_q) (ap (has_size v) prefix_p ∙ z) (known (take size p)) (known (take size q)) (slots_space size v fs (suc i) k _) (slots_space size v fs (suc i) k _)
      (missing (drop size p)) (missing (drop size q)) e in
      both_parts size p q r.0 (slots_determined own z known (suc i) k (drop size p) (drop size q) (omega arith) (AreBytes-drop size p a) (AreBytes-drop size q b) (omega (arith, length-drop size p, l)) (omega (arith, length-drop size q, m)) r.1)

counter_size : (v : FieldShown) (n : ℕ) → is_counter v n ≡ true → has_size v n ≡ true
counter_size (S.Number texts) n h = h
counter_size S.Signed n h = h
counter_size v n h = absurd cc

counter_known : (v : FieldShown) (n : ℕ) → is_counter v n ≡ true → (p : List ℕ) → IsKnown v p
counter_known (S.Number texts) n h p = record {}
counter_known S.Signed n h p = record {}
counter_known v n h p = absurd cc

-- The number of counters.
whole : (size : ℕ) (p : List ℕ) → (length p % size == 0) ≡ true → length p ≡ length p / size * size
whole size p h = let rest = eqb-true (length p % size) 0 h in omega (arith, div-add-mod' (length p) size, rest)

pub counters_determined : CountersAreDetermined
counters_determined [] p q h a b s t i j e = absurd cc
counters_determined (f ∷ fs) p q h a b s t i j e =
    let size = f.1 in
    let tests = and_parts (is_counter f.2 size) (names_apart 61 (f ∷ fs) && has_own_indexes 0 (f ∷ fs)) h in
    let names = and_parts (names_apart 61 (f ∷ fs)) (has_own_indexes 0 (f ∷ fs)) tests.1 in
    let m = length p / size in
    let n = length q / size in
    let few : m < 2 ^ 64 = omega (arith, div-le_self (length p) size, s) in
    let least : n < 2 ^ 64 = omega (arith, div-le_self (length q) size, t) in
    let ends : (k : ℕ) (x : List ℕ) → Ends (slots_text size f.2 (f ∷ fs) 0 k x) = λ k x. space_ends _ (slots_space size f.2 (f ∷ fs) 0 k x) in
    let r = decimal_determined m n (slots_text size f.2 (f ∷ fs) 0 m p) (slots_text size f.2 (f ∷ fs) 0 n q) few least (ends m p) (ends n q) (ap (drop 8) e) in
    let long_p = whole size p (and_parts (not (size == 0)) (length p % size == 0) i).1 in
    let long_q = whole size q (and_parts (not (size == 0)) (length q % size == 0) j).1 in
    slots_determined size f.2 (f ∷ fs) names.0 names.1 (counter_size f.2 size tests.0) (counter_known f.2 size tests.0) 0 m p q (omega (arith, few)) a b long_p
    (long_q ∙ ap (λ k. k * size) (sym r.0)) (r.1 ∙ ap (λ k. slots_text size f.2 (f ∷ fs) 0 k q) (sym r.0))

pub nonzero_determined : NonzeroCountersAreDetermined
nonzero_determined [] p q h a b s l i e = absurd cc
nonzero_determined (f ∷ fs) p q h a b s l i e =
    let size = f.1 in
    let tests = and_parts (is_counter f.2 size) (names_apart 61 (f ∷ fs) && has_own_indexes 0 (f ∷ fs)) h in
    let names = and_parts (names_apart 61 (f ∷ fs)) (has_own_indexes 0 (f ∷ fs)) tests.1 in
    let m = length p / size in
    let few : m < 2 ^ 64 = omega (arith, div-le_self (length p) size, s) in
    let long : length p ≡ m * size = whole size p (and_parts (not (size == 0)) (length p % size == 0) i).1 in
    let count : length q / size ≡ m = ap (λ n. n / size) (sym l) in
    slots_determined size f.2 (f ∷ fs) names.0 names.1 (counter_size f.2 size tests.0) (counter_known f.2 size tests.0) 0 m p q (omega (arith, few)) a b long (sym l ∙ long)
    (e ∙ ap (λ k. slots_text size f.2 (f ∷ fs) 0 k q) count)
