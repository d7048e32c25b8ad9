-- The text of a record determines it.
use Rattle.std.proofs.Common.{◌≡◌, ℕ, zero, suc, ◌+◌, ◌*◌, ◌/◌, ◌%◌, ◌^◌, ◌<◌, ◌≤◌, Bool, true, false, List, [], ◌∷◌, ◌++◌, length, take, drop, refl, sym, ap, subst, ◌∙◌, arith, append_assoc}
use Rattle.std.proofs.lemmas.List.{append_cancel_left}
use Rattle.std.specs.Prelude.{◌==◌, ◌||◌, bytes_eq, codes, cond, flat_map, max, nat_le, not}
use Rattle.std.specs.Char.{digit_value}
use Rattle.std.specs.Fmt.{decimal, digits}
use Rattle.std.specs.List.{AllByRecursion}
use Rattle.std.specs.Str.Parse.{AllDigits, IsNumeral, digits_value}
use Rattle.std.proofs.lemmas.Fmt.{digits_is_IsNumeral}
use Rattle.std.proofs.lemmas.Bool.{and_from, and_parts, eqb-true, le-leb, not-true, true≢false}
use Rattle.std.proofs.lemmas.Bool.Decides.{nat_tests}
use Rattle.std.proofs.lemmas.List.{length-take, length-drop}
use Rattle.std.proofs.lemmas.Slice.Eq.{bytes_eq-Decides}
use Rattle.netlink_packet_core_grammar.specs.Bytes.{AreBytes}
use Rattle.attribute_tables_grammar.specs.Shapes.{number}
use Rattle.link_lines_values.specs.declared.fields.FieldShownBy.TheVariants as S
use Rattle.link_lines_values.specs.Bytes.{colon_byte, colons, count_without_zeros, escaped, hex_text, is_zero, padded_address, padded_text}
use Rattle.link_lines_values.specs.Digits.{big_endian, half_of, is_number, is_signed_size, signed_by}
use Rattle.link_lines_values.specs.Names.{Text, bracketed, named_number, text_in}
use Rattle.link_lines_values.specs.Flags.{nameless_flags}
use Rattle.link_lines_values.specs.Laws.{AllKnown, BeginsWithSpace, Ends, FieldsAreDetermined, IsKnown, RecordsAreDetermined}
use Rattle.link_lines_values.specs.Records.{Field, FieldShown, field_text, field_value, fields_determine, fields_text, has_no_booleans, has_size, is_hidden, is_no_boolean, is_padding, lacks, lacks_byte, names_apart, record_text, sizes_known, total_size, weight_text}
use Rattle.link_lines_values.proofs.BytesDetermined.{colons_are_determined, escaped_determined}
use Rattle.link_lines_values.proofs.GroupsDetermined.{group_determined, hex_and_rest, ipv6_and_rest}
use Rattle.link_lines_values.proofs.NumbersDetermined.{Determines, Digits, Reads, bracket_ends, cut, decimal_determined, flags_of, flags_of_determined, four, high, high_glyph, highest_first, lowest_first, named_determined, nameless_determined, number_and_rest, number_determined, same_size, signed_and_rest, sized, space_ends, with_name}
use Rattle.link_lines_values.proofs.OneLine.{fields_are_lines}
use Rattle.link_lines_values.proofs.ValuesDetermined.{both_parts, boolean_determined}
use Rattle.link_lines_values.proofs.Zeros.{all_zero, zero_number}
use Rattle.netlink_packet_core_grammar.proofs.Bytes.{AreBytes-drop, AreBytes-take}

-- ---- an address without the zeros at its end

high_colons : (p : List ℕ) → Digits (flat_map colon_byte p)
high_colons [] = record {}
high_colons (x ∷ p) = (omega arith, (high_glyph (x / 16), (high_glyph (x % 16), high_colons p)))

high_address : (p : List ℕ) → Digits (colons p)
high_address [] = record {}
high_address (x ∷ p) = (high_glyph (x / 16), (high_glyph (x % 16), high_colons p))

trim_by : (x : ℕ) (p : List ℕ) (j : ℕ) (t : Bool) → is_zero (x ∷ p) ≡ t → cond t 0 (1 + count_without_zeros p) ≤ suc j → count_without_zeros p ≤ j
trim_by x p j true h l = omega (arith, all_zero p (and_parts (x == 0) (is_zero p) h).1)
trim_by x p j false h l = omega arith

trim_nothing : (p : List ℕ) (t : Bool) → is_zero p ≡ t → cond t 0 (1 + count_without_zeros (drop 1 p)) ≤ 0 → number p ≡ 0
trim_nothing p true h l = zero_number p h
trim_nothing p false h l = absurd (omega arith)

trimmed : (p : List ℕ) (i : ℕ) → count_without_zeros p ≤ i → number (take i p) ≡ number p
trimmed [] zero l = refl
trimmed [] (suc i) l = refl
trimmed (x ∷ p) zero l = sym (trim_nothing (x ∷ p) (is_zero (x ∷ p)) refl l)
trimmed (x ∷ p) (suc j) l = ap (λ n. x + 256 * n) (trimmed p j (trim_by x p j (is_zero (x ∷ p)) refl l))

at_most_max : (c : ℕ) → c ≤ max 6 c
at_most_max c = omega arith

address_determined : (p q s t : List ℕ) → AreBytes p → AreBytes q → length p ≡ length q → Ends s → Ends t → padded_address p ++ s ≡ padded_address q ++ t → (p ≡ q) × (s ≡ t)
address_determined p q s t a b l h k e =
    let i = max 6 (count_without_zeros p) in
    let j = max 6 (count_without_zeros q) in
    let r = cut (colons (take i p)) (colons (take j q)) s t (high_address _) (high_address _) h k e in
    let same : take i p ≡ take j q = colons_are_determined _ _ (AreBytes-take i p a) (AreBytes-take j q b) r.0 in
    let n : number p ≡ number q = sym (trimmed p i (at_most_max (count_without_zeros p))) ∙ ap number same ∙ trimmed q j (at_most_max (count_without_zeros q)) in
    (number_determined p q a b l n, r.1)

-- ---- a field

zeros_same : (p q : List ℕ) → AreBytes p → AreBytes q → length p ≡ length q → is_zero p ≡ true → is_zero q ≡ true → p ≡ q
zeros_same p q a b l h k = number_determined p q a b l (zero_number p h ∙ sym (zero_number q k))

-- A number of a size that numbers have.
number_field : (value : List ℕ → ℕ) → Reads value → (text : ℕ → List ℕ) → Determines (2 ^ 64) text → (p q s t : List ℕ) → AreBytes p → AreBytes q → length p ≡ length q → is_number p ≡ true → Ends s → Ends t →
    cond (is_number p) (text (value p)) (hex_text p) ++ s ≡ cond (is_number q) (text (value q)) (hex_text q) ++ t → (p ≡ q) × (s ≡ t)
number_field value reads text determined p q s t a b l h m n e =
    let k = same_size p q l h in
    number_and_rest value reads text determined p q s t a b (sized (length p) h) l m n (rw (h, k) at e)

-- A number with a sign, of a size that such numbers have.
signed_field : (p q s t : List ℕ) → AreBytes p → AreBytes q → length p ≡ length q → is_signed_size (length p) ≡ true → Ends s → Ends t →
    cond (is_signed_size (length p)) (signed_by (half_of (length p)) (number p)) (hex_text p) ++ s ≡ cond (is_signed_size (length q)) (signed_by (half_of (length q)) (number q)) (hex_text q) ++ t → (p ≡ q) × (s ≡ t)
signed_field p q s t a b l h m n e =
    let k : is_signed_size (length q) ≡ true = ap is_signed_size (sym l) ∙ h in
    signed_and_rest p q s t a b l h m n (rw (h, k) at e)

-- A set of flags of a size that numbers have.
flags_field : (names : List Text) (p q s t : List ℕ) → AreBytes p → AreBytes q → length p ≡ length q → is_number p ≡ true → Ends s → Ends t →
    field_value (S.Flags names) p ++ s ≡ field_value (S.Flags names) q ++ t → (p ≡ q) × (s ≡ t)
flags_field names p q s t a b l h m n e =
    number_field number lowest_first (flags_of (length p == 4) names) (flags_of_determined (length p == 4) names) p q s t a b l h m n
    (e ∙ ap (λ k. cond (is_number q) (flags_of (k == 4) names (number q)) (hex_text q) ++ t) (sym l))

-- A text without the NULs at its end.
text_determined : (p q s t : List ℕ) → AreBytes p → AreBytes q → length p ≡ length q → padded_text p ++ s ≡ padded_text q ++ t → (p ≡ q) × (s ≡ t)
text_determined p q s t a b l e =
    let i = count_without_zeros p in
    let j = count_without_zeros q in
    let text = flat_map escaped (take i p) in
    let other = flat_map escaped (take j q) in
    let r = escaped_determined (take i p) (take j q) s t (AreBytes-take i p a) (AreBytes-take j q b) (sym (append_assoc text (34 ∷ []) s) ∙ ap (drop 1) e ∙ append_assoc other (34 ∷ []) t) in
    (number_determined p q a b l (sym (trimmed p i (omega arith)) ∙ ap number r.0 ∙ trimmed q j (omega arith)), r.1)

-- ---- a handle

-- No hex digit is a colon.
abbrev Plain : List ℕ → Type 0
Plain s = AllByRecursion (λ c. c ≡ 58 → ⊥) s

no_colon : (c : ℕ) → digit_value c < 16 → c ≡ 58 → ⊥
no_colon c h k = let other : digit_value 58 < 16 = subst (λ x. digit_value x < 16) k h in absurd (omega (arith, other))

digits_plain : (s : List ℕ) → AllDigits 16 s → Plain s
digits_plain [] h = record {}
digits_plain (c ∷ s) h = (no_colon c h.0, digits_plain s h.1)

cut_colon : (a b s t : List ℕ) → Plain a → Plain b → a ++ 58 ∷ s ≡ b ++ 58 ∷ t → (a ≡ b) × (s ≡ t)
cut_colon [] [] s t h k e = (refl, ap (drop 1) e)
cut_colon [] (y ∷ b) s t h k e = let first : y ≡ 58 = cc in absurd (k.0 first)
cut_colon (x ∷ a) [] s t h k e = let first : x ≡ 58 = cc in absurd (h.0 first)
cut_colon (x ∷ a) (y ∷ b) s t h k e =
    let rest = cut_colon a b s t h.1 k.1 (ap (drop 1) e) in
    (cc, rest.1)

half_read : (n : ℕ) → n < 65536 → IsNumeral 16 (digits 16 false n) × (digits_value 16 (digits 16 false n) ≡ n)
half_read n h = digits_is_IsNumeral 16 false (omega arith) (omega arith) n (omega arith)

handle_determined : Determines 4294967296 (λ n. digits 16 false (n / 65536) ++ 58 ∷ digits 16 false (n % 65536))
handle_determined m n s t p q k l e =
    let upper_m = half_read (m / 65536) (omega arith) in
    let upper_n = half_read (n / 65536) (omega arith) in
    let lower_m = half_read (m % 65536) (omega arith) in
    let lower_n = half_read (n % 65536) (omega arith) in
    let high_m = digits 16 false (m / 65536) in
    let high_n = digits 16 false (n / 65536) in
    let low_m = digits 16 false (m % 65536) in
    let low_n = digits 16 false (n % 65536) in
    let first = cut_colon high_m high_n (low_m ++ s) (low_n ++ t) (digits_plain high_m upper_m.0.1) (digits_plain high_n upper_n.0.1)
    (sym (append_assoc high_m (58 ∷ low_m) s) ∙ e ∙ append_assoc high_n (58 ∷ low_n) t) in
    let after = cut low_m low_n s t (high 16 (m % 65536)) (high 16 (n % 65536)) k l first.1 in
    let upper : m / 65536 ≡ n / 65536 = sym upper_m.1 ∙ ap (digits_value 16) first.0 ∙ upper_n.1 in
    let lower : m % 65536 ≡ n % 65536 = sym lower_m.1 ∙ ap (digits_value 16) after.0 ∙ lower_n.1 in
    (omega (arith, upper, lower), after.1)

handle_field : (texts : List Text) (p q s t : List ℕ) → AreBytes p → AreBytes q → length p ≡ 4 → length q ≡ 4 → Ends s → Ends t →
    field_value (S.Handle texts) p ++ s ≡ field_value (S.Handle texts) q ++ t → (p ≡ q) × (s ≡ t)
handle_field texts p q s t a b k o m n e =
    let named = with_name 4294967296 (λ n. digits 16 false (n / 65536) ++ 58 ∷ digits 16 false (n % 65536)) (λ n. bracketed (text_in texts n)) handle_determined (λ n. bracket_ends (text_in texts n)) in
    let r = named (number p) (number q) s t (four p a k) (four q b o) m n (rw (k, o) at e) in
    (number_determined p q a b (k ∙ sym o) r.0, r.1)

-- ---- the weight of a next hop

weight_determined : Determines (2 ^ 64) (λ n. decimal n ++ (codes " (weight " ++ (decimal (n + 1) ++ codes ")")))
weight_determined = with_name (2 ^ 64) decimal (λ n. codes " (weight " ++ (decimal (n + 1) ++ codes ")")) decimal_determined (λ n s h. omega arith)

weight_field : (p q s t : List ℕ) → AreBytes p → AreBytes q → length p ≡ 1 → length q ≡ 1 → Ends s → Ends t → weight_text p ++ s ≡ weight_text q ++ t → (p ≡ q) × (s ≡ t)
weight_field (x ∷ []) (y ∷ []) s t a b l k m n e =
    let r = weight_determined x y s t (omega (arith, a.0)) (omega (arith, b.0)) m n e in
    (ap (λ z. z ∷ []) r.0, r.1)
weight_field p q s t a b l k m n e = absurd (omega arith)

-- A set of big-endian flags of a size that numbers have.
big_flags_field : (p q s t : List ℕ) → AreBytes p → AreBytes q → length p ≡ length q → is_number p ≡ true → Ends s → Ends t →
    field_value S.BigEndianFlags p ++ s ≡ field_value S.BigEndianFlags q ++ t → (p ≡ q) × (s ≡ t)
big_flags_field p q s t a b l h m n e =
    number_field big_endian highest_first (nameless_flags (length p == 4)) (nameless_determined (length p == 4)) p q s t a b l h m n
    (e ∙ ap (λ k. cond (is_number q) (nameless_flags (k == 4) (big_endian q)) (hex_text q) ++ t) (sym l))

pub field_determined : (v : FieldShown) (p q s t : List ℕ) → AreBytes p → AreBytes q → length p ≡ length q → has_size v (length p) ≡ true → IsKnown v p → IsKnown v q → BeginsWithSpace s → BeginsWithSpace t →
    field_value v p ++ s ≡ field_value v q ++ t → (p ≡ q) × (s ≡ t)
field_determined (S.Number texts) p q s t a b l h i j m n e =
    number_field number lowest_first (named_number texts) (named_determined texts) p q s t a b l h (space_ends s m) (space_ends t n) e
field_determined S.Signed p q s t a b l h i j m n e = signed_field p q s t a b l h (space_ends s m) (space_ends t n) e
field_determined (S.BigEndian texts) p q s t a b l h i j m n e =
    number_field big_endian highest_first (named_number texts) (named_determined texts) p q s t a b l h (space_ends s m) (space_ends t n) e
field_determined (S.Flags names) p q s t a b l h i j m n e = flags_field names p q s t a b l h (space_ends s m) (space_ends t n) e
field_determined S.BigEndianFlags p q s t a b l h i j m n e = big_flags_field p q s t a b l h (space_ends s m) (space_ends t n) e
field_determined S.Weight p q s t a b l h i j m n e =
    let one = eqb-true (length p) 1 h in
    weight_field p q s t a b one (sym l ∙ one) (space_ends s m) (space_ends t n) e
field_determined S.Address p q s t a b l h i j m n e = address_determined p q s t a b l (space_ends s m) (space_ends t n) e
field_determined S.Boolean p q s t a b l h i j m n e = boolean_determined p q s t a b l i j e
field_determined (S.Handle texts) p q s t a b l h i j m n e =
    let size = eqb-true (length p) 4 h in
    handle_field texts p q s t a b size (sym l ∙ size) (space_ends s m) (space_ends t n) e
field_determined S.Text p q s t a b l h i j m n e = text_determined p q s t a b l e
field_determined (S.Group texts) p q s t a b l h i j m n e =
    let k = eqb-true (length p) 18 h in
    let o = sym l ∙ k in
    group_determined texts p q s t a b k o (space_ends s m) (space_ends t n) (rw (k, o) at e)
field_determined S.Ipv6 p q s t a b l h i j m n e =
    let k = eqb-true (length p) 16 h in
    let o = sym l ∙ k in
    ipv6_and_rest p q s t a b k o m n (rw (k, o) at e)
field_determined S.Padding p q s t a b l h i j m n e = hex_and_rest p q s t a b (space_ends s m) (space_ends t n) e

-- ---- fields, one after the other

pub no_items : (p q : List ℕ) → length p ≡ 0 → length q ≡ 0 → p ≡ q
no_items [] [] h k = refl
no_items p q h k = absurd (omega arith)

-- A field that isn't shown is zero.
hidden_zero : (sparse : Bool) (v : FieldShown) (p : List ℕ) → is_hidden sparse v p ≡ true → is_zero p ≡ true
hidden_zero sparse v p h = (and_parts (sparse || is_padding v) (is_zero p) h).1

module _ (separator : ℕ) where
  -- Two texts of one field determine its value, and what follows them.
  shown_field : (f : Field) (p q s t : List ℕ) → AreBytes p → AreBytes q → length p ≡ length q → has_size f.2 (length p) ≡ true → IsKnown f.2 p → IsKnown f.2 q → BeginsWithSpace s → BeginsWithSpace t →
      field_text separator f p ++ s ≡ field_text separator f q ++ t → (p ≡ q) × (s ≡ t)
  shown_field f p q s t a b l h i j m n e =
      let name = f.0 in
      let x = separator ∷ field_value f.2 p in
      let y = separator ∷ field_value f.2 q in
      let following : x ++ s ≡ y ++ t = append_cancel_left name _ _ (sym (append_assoc name x s) ∙ ap (drop 1) e ∙ append_assoc name y t) in
      field_determined f.2 p q s t a b l h i j m n (ap (drop 1) following)

  -- ---- names before the separator

  cut_name : (a b s t : List ℕ) → lacks_byte separator a ≡ true → lacks_byte separator b ≡ true → a ++ separator ∷ s ≡ b ++ separator ∷ t → a ≡ b
  cut_name [] [] s t h k e = refl
  cut_name [] (y ∷ b) s t h k e = let first : y ≡ separator = cc in let other = (and_parts (not (y == separator)) (lacks_byte separator b) k).0 in absurd (grind (arith, nat_tests))
  cut_name (x ∷ a) [] s t h k e = let first : x ≡ separator = cc in let other = (and_parts (not (x == separator)) (lacks_byte separator a) h).0 in absurd (grind (arith, nat_tests))
  cut_name (x ∷ a) (y ∷ b) s t h k e =
      let rest : a ≡ b = cut_name a b s t (and_parts (not (x == separator)) (lacks_byte separator a) h).1 (and_parts (not (y == separator)) (lacks_byte separator b) k).1 (ap (drop 1) e) in
      cc

  -- No field that is shown has a name that isn't in the record.
  pub absent_by : (n : List ℕ) (f : Field) (rest r : List ℕ) (p : List ℕ) (t : Bool) → lacks_byte separator n ≡ true → lacks_byte separator f.0 ≡ true → (f.0 ≡ n → ⊥) → (rest ≡ 32 ∷ (n ++ separator ∷ r) → ⊥) →
      cond t [] (field_text separator f p) ++ rest ≡ 32 ∷ (n ++ separator ∷ r) → ⊥
  absent_by n f rest r p true h k m other e = other e
  absent_by n f rest r p false h k m other e =
      let name = f.0 in
      let same : name ≡ n = cut_name name n _ r k h (sym (append_assoc name (separator ∷ field_value f.2 p) rest) ∙ ap (drop 1) e) in
      m same

  absent : (sparse : Bool) (n : List ℕ) (fs : List Field) (p r : List ℕ) → lacks_byte separator n ≡ true → lacks n fs ≡ true → names_apart separator fs ≡ true → fields_text separator sparse fs p ≡ 32 ∷ (n ++ separator ∷ r) → ⊥
  absent sparse n [] p r h k m e = absurd cc
  absent sparse n (f ∷ fs) p r h k m e =
      let named = and_parts (lacks_byte separator f.0) _ m in
      let lacking = and_parts _ (lacks n fs) k in
      absent_by n f (fields_text separator sparse fs (drop f.1 p)) r (take f.1 p) (is_hidden sparse f.2 (take f.1 p)) h named.0 (λ same. true≢false (sym ((bytes_eq-Decides f.0 n).1 same) ∙ not-true (bytes_eq f.0 n) lacking.0)) (absent sparse n fs (drop f.1 p) r h lacking.1 (and_parts _ _ named.1).1) e

  -- ---- fields that may be left out

  -- Two texts of a field that may be left out, each with what follows it.
  pub optional_field : (f : Field) (p q s t : List ℕ) (c d : Bool) → (c ≡ true → is_zero p ≡ true) → (d ≡ true → is_zero q ≡ true) → AreBytes p → AreBytes q → length p ≡ length q → has_size f.2 (length p) ≡ true → IsKnown f.2 p → IsKnown f.2 q → BeginsWithSpace s → BeginsWithSpace t →
      ((r : List ℕ) → s ≡ 32 ∷ (f.0 ++ separator ∷ r) → ⊥) → ((r : List ℕ) → t ≡ 32 ∷ (f.0 ++ separator ∷ r) → ⊥) →
      cond c [] (field_text separator f p) ++ s ≡ cond d [] (field_text separator f q) ++ t → (p ≡ q) × (s ≡ t)
  optional_field f p q s t true true h k a b l z i j m n u v e = (zeros_same p q a b l (h refl) (k refl), e)
  optional_field f p q s t true false h k a b l z i j m n u v e = absurd (u (field_value f.2 q ++ t) (e ∙ ap (λ x. 32 ∷ x) (append_assoc f.0 (separator ∷ field_value f.2 q) t)))
  optional_field f p q s t false true h k a b l z i j m n u v e = absurd (v (field_value f.2 p ++ s) (sym e ∙ ap (λ x. 32 ∷ x) (append_assoc f.0 (separator ∷ field_value f.2 p) s)))
  optional_field f p q s t false false h k a b l z i j m n u v e = shown_field f p q s t a b l z i j m n e

  all_fields : (sparse : Bool) (fs : List Field) (p q : List ℕ) → AreBytes p → AreBytes q → length p ≡ total_size fs → length q ≡ total_size fs → sizes_known fs ≡ true → names_apart separator fs ≡ true → AllKnown fs p → AllKnown fs q →
      fields_text separator sparse fs p ≡ fields_text separator sparse fs q → p ≡ q
  all_fields sparse [] p q a b l k z u i j e = no_items p q l k
  all_fields sparse (f ∷ fs) p q a b l k z u i j e =
      let n = f.1 in
      let prefix_p : length (take n p) ≡ n = omega (arith, length-take n p) in
      let prefix_q : length (take n q) ≡ n = omega (arith, length-take n q) in
      let sizes = and_parts (has_size f.2 n) (sizes_known fs) z in
      let named = and_parts (lacks_byte separator f.0) _ u in
      let others = and_parts (lacks f.0 fs) _ named.1 in
      let r = optional_field f (take n p) (take n q) (fields_text separator sparse fs (drop n p)) (fields_text separator sparse fs (drop n q)) (is_hidden sparse f.2 (take n p)) (is_hidden sparse f.2 (take n q))
      (hidden_zero sparse f.2 (take n p)) (hidden_zero sparse f.2 (take n q)) (AreBytes-take n p a) (AreBytes-take n q b) (prefix_p ∙ sym prefix_q)
      (ap (has_size f.2) prefix_p ∙ sizes.0) i.0 j.0 (fields_are_lines.space separator sparse fs _) (fields_are_lines.space separator sparse fs _)
      (λ r. absent sparse f.0 fs (drop n p) r named.0 others.0 others.1) (λ r. absent sparse f.0 fs (drop n q) r named.0 others.0 others.1) e in
      both_parts n p q r.0 (all_fields sparse fs (drop n p) (drop n q) (AreBytes-drop n p a) (AreBytes-drop n q b) (omega (arith, length-drop n p)) (omega (arith, length-drop n q)) sizes.1 others.1 i.1 j.1 r.1)

  pub fields_determined : (sparse : Bool) (fs : List Field) (p q : List ℕ) → AreBytes p → AreBytes q → length p ≡ total_size fs → length q ≡ total_size fs → fields_determine separator fs ≡ true → AllKnown fs p → AllKnown fs q →
      fields_text separator sparse fs p ≡ fields_text separator sparse fs q → p ≡ q
  fields_determined sparse fs p q a b l k h i j e =
      let tells = and_parts (sizes_known fs) (names_apart separator fs) h in
      all_fields sparse fs p q a b l k tells.0 tells.1 i j e

pub records_determined : RecordsAreDetermined
unfolding record_text
records_determined sparse fs p q t h k l e =
    let n = total_size fs in
    let whole_p = and_from (nat_le n (length p)) (is_zero (drop n p)) (le-leb n (length p) h.whole) h.zeros in
    let whole_q = and_from (nat_le n (length q)) (is_zero (drop n q)) (le-leb n (length q) k.whole) k.zeros in
    let prefix = fields_determined 61 sparse fs (take n p) (take n q) (AreBytes-take n p h.bytes) (AreBytes-take n q k.bytes) (omega (arith, length-take n p, h.whole)) (omega (arith, length-take n q, k.whole))
    t h.known k.known (rw (whole_p, whole_q) at e) in
    let back = number_determined (drop n p) (drop n q) (AreBytes-drop n p h.bytes) (AreBytes-drop n q k.bytes) (omega (arith, length-drop n p, length-drop n q)) (zero_number _ h.zeros ∙ sym (zero_number _ k.zeros)) in
    both_parts n p q prefix back

-- ---- records without booleans

pub known_field : (v : FieldShown) (p : List ℕ) → is_no_boolean v ≡ true → IsKnown v p
known_field S.Boolean p h = absurd cc
known_field v p h = record {}

pub all_known : (fs : List Field) (p : List ℕ) → has_no_booleans fs ≡ true → AllKnown fs p
all_known [] p h = record {}
all_known (f ∷ fs) p h =
    let shown = and_parts (is_no_boolean f.2) (has_no_booleans fs) h in
    (known_field f.2 (take f.1 p) shown.0, all_known fs (drop f.1 p) shown.1)

pub plain_determined : FieldsAreDetermined
plain_determined separator fs p q t h a b i j e =
    fields_determined separator false fs p q a b (eqb-true (length p) (total_size fs) i) (eqb-true (length q) (total_size fs) j) t (all_known fs p h) (all_known fs q h) e
