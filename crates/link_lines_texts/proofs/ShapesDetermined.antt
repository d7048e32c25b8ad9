-- The text of a format determines the payloads of a shape.
use Rattle.std.proofs.Common.{◌≡◌, ℕ, zero, suc, ◌-◌, ◌≤◌, Bool, true, false, cond, List, [], ◌∷◌, ◌++◌, length, take, drop, Some, None, refl, sym, ap, subst, ◌∙◌, arith}
use Rattle.std.specs.Prelude.{◌==◌, ◌&&◌, ◌||◌, nat_le, get_or, map}
use Rattle.std.proofs.lemmas.Bool.{and_parts, eqb-true, leb-true}
use Rattle.std.proofs.lemmas.List.{drop_all, drop_at, length-append, length-take, length-drop, length-replicate, take_all}
use Rattle.netlink_packet_core_grammar.specs.Attributes.{zeros}
use Rattle.netlink_packet_core_grammar.specs.Texts.{without_nul}
use Rattle.netlink_packet_core_grammar.specs.Booleans.{boolean_of, is_one}
use Rattle.attribute_tables_grammar.specs.Rules.{shape_rule}
use Rattle.attribute_tables_grammar.specs.Shapes.{Shape, exact, either, at_most, boolean_if_nonzero, boolean_if_one, boolean_of_four, presence, text, fixed_record, id_and_boolean, resized, number, number_boolean}
use Rattle.link_lines_values.specs.declared.fields.FieldShownBy.TheVariants as F
use Rattle.link_lines_values.specs.declared.values.ShownBy.TheVariants as V
use Rattle.link_lines_values.specs.Bytes.{address_text, is_zero}
use Rattle.link_lines_values.specs.Digits.{is_signed_size}
use Rattle.link_lines_values.specs.Laws.{AllKnown, HoldsFields, IsKnown}
use Rattle.link_lines_values.specs.Records.{Field, FieldShown, fields_determine, has_no_booleans, is_no_boolean, record_text, total_size}
use Rattle.link_lines_values.proofs.BytesDetermined.{bytes_determined}
use Rattle.link_lines_values.proofs.NumbersDetermined.{numbers_determined}
use Rattle.link_lines_values.proofs.RecordsDetermined.{all_known, known_field, records_determined}
use Rattle.link_lines_values.proofs.SizesDetermined.{sizes_determined}
use Rattle.link_lines_values.proofs.ValuesDetermined.{addresses_determined, settings_determined}
use Rattle.link_lines_texts.specs.Coverage.{canonical_size, is_sized, is_size, is_boolean, is_presence, is_string, is_optional, is_address, is_setting, has_fields}
use Rattle.link_lines_texts.specs.Determination.{IsCanonical, ShapesAreDetermined}

abbrev CanonicalPayload : Shape → List ℕ → Type 0
CanonicalPayload s p = IsCanonical (shape_rule s) p

-- ---- sizes

-- All canonical payloads of the shape have one size, which has a property.
record HasSize (s : Shape) (f : ℕ → Bool) : Type 0 where
  n : ℕ
  known : f n ≡ true
  size : (p : List ℕ) → CanonicalPayload s p → length p ≡ n

record_length : (m n : ℕ) (p : List ℕ) → m ≤ n → m ≤ length p → take m p ++ zeros (n - m) ≡ p → length p ≡ n
record_length m n p l h e = omega (arith, simp (length-append, length-take, length-replicate) at (ap length e))

setting_length : (p : List ℕ) → 8 ≤ length p → take 4 p ++ number_boolean (take 4 (drop 4 p)) ≡ p → length p ≡ 8
setting_length p h e = omega (arith, simp (length-append, length-take) at (ap length e))

resized_length : (n : ℕ) (p : List ℕ) → take n (p ++ zeros n) ≡ p → length p ≡ n
resized_length n p e = omega (arith, simp (length-append, length-take, length-replicate) at (ap length e))

record_sized : (m n : ℕ) (f : ℕ → Bool) (t : Bool) → nat_le m n ≡ t → is_sized (cond t (Some n) None) f ≡ true → HasSize (fixed_record m n) f
record_sized m n f true l h = record { n = n; known = h; size = λ p o. record_length m n p (leb-true m n l) (leb-true m (length p) o.accepted) o.canonical }
record_sized m n f false l h = absurd cc

sized : (s : Shape) (f : ℕ → Bool) → is_sized (canonical_size s) f ≡ true → HasSize s f
sized (exact n) f h = record { n = n; known = h; size = λ p o. eqb-true (length p) n o.accepted }
sized boolean_if_nonzero f h = record { n = 1; known = h; size = λ p o. eqb-true (length p) 1 o.accepted }
sized boolean_if_one f h = record { n = 1; known = h; size = λ p o. eqb-true (length p) 1 o.accepted }
sized boolean_of_four f h = record { n = 4; known = h; size = λ p o. eqb-true (length p) 4 o.accepted }
sized presence f h = record { n = 0; known = h; size = λ p o. ap length (sym o.canonical) }
sized (fixed_record m n) f h = record_sized m n f (nat_le m n) refl h
sized id_and_boolean f h = record { n = 8; known = h; size = λ p o. setting_length p (leb-true 8 (length p) o.accepted) o.canonical }
sized (resized n) f h = record { n = n; known = h; size = λ p o. resized_length n p o.canonical }
sized s f h = absurd cc

same_length : (s : Shape) (f : ℕ → Bool) (p q : List ℕ) → HasSize s f → CanonicalPayload s p → CanonicalPayload s q → length p ≡ length q
same_length s f p q h o u = h.size p o ∙ sym (h.size q u)

length_holds : (s : Shape) (f : ℕ → Bool) (p : List ℕ) → HasSize s f → CanonicalPayload s p → f (length p) ≡ true
length_holds s f p h o = ap f (h.size p o) ∙ h.known

length_is : (s : Shape) (n : ℕ) (p : List ℕ) → HasSize s (λ m. m == n) → CanonicalPayload s p → length p ≡ n
length_is s n p h o = eqb-true (length p) n (length_holds s (λ m. m == n) p h o)

-- ---- booleans

boolean_small : (n : ℕ) → boolean_of n ≤ 1
boolean_small zero = omega arith
boolean_small (suc n) = omega arith

one_small : (n : ℕ) → is_one n ≤ 1
one_small zero = omega arith
one_small (suc zero) = omega arith
one_small (suc (suc n)) = omega arith

mapped : (p : List ℕ) (f : ℕ → ℕ) → length p ≡ 1 → ((n : ℕ) → f n ≤ 1) → map f p ≡ p → number p ≤ 1
mapped [] f l h e = omega arith
mapped (x ∷ []) f l h e = let b = h x in let same : f x ≡ x = ap (λ q. get_or q 0 0) e in omega (arith, b, same)
mapped (x ∷ y ∷ p) f l h e = absurd (omega arith)

boolean_as_number : (n : ℕ) → number (boolean_of n ∷ 0 ∷ 0 ∷ 0 ∷ []) ≤ 1
boolean_as_number n = omega (arith, boolean_small n)

at_most_one : (s : Shape) (p : List ℕ) → is_boolean s ≡ true → CanonicalPayload s p → number p ≤ 1
at_most_one boolean_if_nonzero p h o = mapped p boolean_of (eqb-true (length p) 1 o.accepted) boolean_small o.canonical
at_most_one boolean_if_one p h o = mapped p is_one (eqb-true (length p) 1 o.accepted) one_small o.canonical
at_most_one boolean_of_four p h o = subst (λ q. number q ≤ 1) o.canonical (boolean_as_number (number p))
at_most_one s p h o = absurd cc

boolean_sized : (s : Shape) → is_boolean s ≡ true → HasSize s (λ n. true)
boolean_sized boolean_if_nonzero h = sized boolean_if_nonzero (λ n. true) refl
boolean_sized boolean_if_one h = sized boolean_if_one (λ n. true) refl
boolean_sized boolean_of_four h = sized boolean_of_four (λ n. true) refl
boolean_sized s h = absurd cc

-- ---- records

zeros_are : (n : ℕ) → is_zero (zeros n) ≡ true
zeros_are zero = refl
zeros_are (suc n) = zeros_are n

-- A payload that has just the size of its fields.
whole_record : (s : Shape) (held : List Field) (p : List ℕ) → CanonicalPayload s p → length p ≡ total_size held → has_no_booleans held ≡ true → HoldsFields held p
whole_record s held p o l h = record {
  bytes = o.bytes;
  whole = omega (arith, l);
  zeros = ap is_zero (drop_all (total_size held) p (omega (arith, l)));
  known = all_known held (take (total_size held) p) h;
}

-- A payload in which zeros follow the fields.
filled_record : (m n : ℕ) (held : List Field) (p : List ℕ) → CanonicalPayload (fixed_record m n) p → total_size held ≡ m → has_no_booleans held ≡ true → HoldsFields held p
filled_record m n held p o l h =
    let long = leb-true m (length p) o.accepted in
    let prefix : length (take m p) ≡ m = omega (arith, length-take m p, long) in
    let rest : drop m p ≡ zeros (n - m) = ap (drop m) (sym o.canonical) ∙ drop_at (take m p) (zeros (n - m)) m prefix in
    record {
      bytes = o.bytes;
      whole = omega (arith, l, long);
      zeros = ap (λ k. is_zero (drop k p)) l ∙ ap is_zero rest ∙ zeros_are (n - m);
      known = all_known held (take (total_size held) p) h;
    }

either_record : (m n : ℕ) (held : List Field) (p : List ℕ) (t : Bool) → (total_size held == n) ≡ t → CanonicalPayload (fixed_record m n) p → m ≤ n → (t || (total_size held == m)) ≡ true → has_no_booleans held ≡ true → HoldsFields held p
either_record m n held p true e o l h k =
    let long = leb-true m (length p) o.accepted in
    whole_record (fixed_record m n) held p o (record_length m n p l long o.canonical ∙ sym (eqb-true (total_size held) n e)) k
either_record m n held p false e o l h k = filled_record m n held p o (eqb-true (total_size held) m h) k

known_setting : (v : FieldShown) (p : List ℕ) → number p ≤ 1 → IsKnown v p
known_setting F.Boolean p h = h
known_setting v p h = record {}

-- A number and a boolean of 4 bytes each.
setting_known : (fs : List Field) (p : List ℕ) → is_setting fs ≡ true → number (drop 4 p) ≤ 1 → length p ≡ 8 → (total_size fs ≡ 8) × AllKnown fs p
setting_known (f ∷ g ∷ []) p h n l =
    let first = and_parts (f.1 == 4) (is_no_boolean f.2 && (g.1 == 4)) h in
    let second = and_parts (is_no_boolean f.2) (g.1 == 4) first.1 in
    let a = eqb-true f.1 4 first.0 in
    let b = eqb-true g.1 4 second.1 in
    let back : length (drop 4 p) ≡ 4 = omega (arith, length-drop 4 p, l) in
    let same : take g.1 (drop f.1 p) ≡ drop 4 p = (λ i. take (b i) (drop (a i) p)) ∙ take_all 4 (drop 4 p) (omega (arith, back)) in
    let small : number (take g.1 (drop f.1 p)) ≤ 1 = subst (λ q. number q ≤ 1) (sym same) n in
    (omega (arith, a, b), (known_field f.2 (take f.1 p) second.0, (known_setting g.2 (take g.1 (drop f.1 p)) small, record {})))
setting_known fs p h n l = absurd cc

setting_record : (held : List Field) (p : List ℕ) → CanonicalPayload id_and_boolean p → is_setting held ≡ true → HoldsFields held p
setting_record held p o h =
    let long = leb-true 8 (length p) o.accepted in
    let l = setting_length p long o.canonical in
    let prefix : length (take 4 p) ≡ 4 = omega (arith, length-take 4 p, long) in
    let following : drop 4 p ≡ number_boolean (take 4 (drop 4 p)) = ap (drop 4) (sym o.canonical) ∙ drop_at (take 4 p) (number_boolean (take 4 (drop 4 p))) 4 prefix in
    let small : number (drop 4 p) ≤ 1 = subst (λ q. number q ≤ 1) (sym following) (boolean_as_number (number (take 4 (drop 4 p)))) in
    let known = setting_known held p h small l in
    let all : length p ≡ total_size held = l ∙ sym known.0 in
    record {
      bytes = o.bytes;
      whole = omega (arith, all);
      zeros = ap is_zero (drop_all (total_size held) p (omega (arith, all)));
      known = subst (AllKnown held) (sym (take_all (total_size held) p (omega (arith, all)))) known.1;
    }

holds : (s : Shape) (held : List Field) (p : List ℕ) → has_fields s held ≡ true → CanonicalPayload s p → HoldsFields held p
holds (exact n) held p h o =
    let both = and_parts (total_size held == n) (has_no_booleans held) h in
    whole_record (exact n) held p o (eqb-true (length p) n o.accepted ∙ sym (eqb-true (total_size held) n both.0)) both.1
holds (resized n) held p h o =
    let both = and_parts (total_size held == n) (has_no_booleans held) h in
    whole_record (resized n) held p o (resized_length n p o.canonical ∙ sym (eqb-true (total_size held) n both.0)) both.1
holds (fixed_record m n) held p h o =
    let total = total_size held in
    let both = and_parts (nat_le m n) (((total == n) || (total == m)) && has_no_booleans held) h in
    let more = and_parts ((total == n) || (total == m)) (has_no_booleans held) both.1 in
    either_record m n held p (total == n) refl o (leb-true m n both.0) more.0 more.1
holds id_and_boolean held p h o = setting_record held p o h
holds s held p h o = absurd cc

-- All payloads of a record have one size.
record_lengths : (s : Shape) (fs : List Field) → has_fields s fs ≡ true → HasSize s (λ n. true)
record_lengths (exact n) fs h = sized (exact n) (λ n. true) refl
record_lengths (resized n) fs h = sized (resized n) (λ n. true) refl
record_lengths (fixed_record m n) fs h = sized (fixed_record m n) (λ n. true) (rw (and_parts (nat_le m n) _ h).0 refl)
record_lengths id_and_boolean fs h = sized id_and_boolean (λ n. true) refl
record_lengths s fs h = absurd cc

-- ---- addresses

address_size : (s : Shape) (p : List ℕ) → is_address s ≡ true → CanonicalPayload s p → ((length p == 4) || (length p == 16)) ≡ true
address_size (exact n) p h o = ap (λ k. (k == 4) || (k == 16)) (eqb-true (length p) n o.accepted) ∙ h
address_size (either m n) p h o =
    let both = and_parts (m == 4) (n == 16) h in
    (λ i. (length p == sym (eqb-true m 4 both.0) i) || (length p == sym (eqb-true n 16 both.1) i)) ∙ o.accepted
address_size s p h o = absurd cc

module _ (s : Shape) where
  by_sizes : (p q : List ℕ) (t u : Bool) → (length p == 4) ≡ t → (length q == 4) ≡ u → (t || (length p == 16)) ≡ true → (u || (length q == 16)) ≡ true → CanonicalPayload s p → CanonicalPayload s q → address_text p ≡ address_text q → p ≡ q
  by_sizes p q true true a b h k o u e = addresses_determined.ipv4 p q o.bytes u.bytes (eqb-true (length p) 4 a) (eqb-true (length q) 4 b) e
  by_sizes p q true false a b h k o u e = absurd (sizes_determined p q o.bytes u.bytes (eqb-true (length p) 4 a) (eqb-true (length q) 16 k) e)
  by_sizes p q false true a b h k o u e = absurd (sizes_determined q p u.bytes o.bytes (eqb-true (length q) 4 b) (eqb-true (length p) 16 h) (sym e))
  by_sizes p q false false a b h k o u e = addresses_determined.ipv6 p q o.bytes u.bytes (eqb-true (length p) 16 h) (eqb-true (length q) 16 k) e

-- ---- bytes that hold no number

strings : (s : Shape) (p q : List ℕ) → is_string s ≡ true → CanonicalPayload s p → CanonicalPayload s q → without_nul p ≡ without_nul q → p ≡ q
strings text p q h o u e = sym o.canonical ∙ ap (λ v. v ++ 0 ∷ []) e ∙ u.canonical
strings s p q h o u e = absurd cc

presences : (s : Shape) (p q : List ℕ) → is_presence s ≡ true → CanonicalPayload s p → CanonicalPayload s q → p ≡ q
presences presence p q h o u = sym o.canonical ∙ u.canonical
presences s p q h o u = absurd cc

optional_size : (s : Shape) (p : List ℕ) → is_optional s ≡ true → CanonicalPayload s p → length p ≤ 1
optional_size (at_most n) p h o = let a = leb-true (length p) n o.accepted in let b = eqb-true n 1 h in omega (arith, a, b)
optional_size s p h o = absurd cc

-- ---- a format that determines the shape

record_determined : (s : Shape) (sparse : Bool) (fields : List Field) (p q : List ℕ) → (fields_determine 61 fields && has_fields s fields) ≡ true → CanonicalPayload s p → CanonicalPayload s q → record_text sparse fields p ≡ record_text sparse fields q → p ≡ q
record_determined s sparse fields p q h o u e =
    let parts = and_parts (fields_determine 61 fields) (has_fields s fields) h in
    let k = parts.1 in
    records_determined sparse fields p q parts.0 (holds s fields p k o) (holds s fields q k u) (same_length s (λ n. true) p q (record_lengths s fields k) o u) e

pub shapes_determined : ShapesAreDetermined
shapes_determined s (V.Number numbers) p q h o u e = let z = sized s is_size h in numbers_determined.little numbers p q o.bytes u.bytes (same_length s is_size p q z o u) (length_holds s is_size p z o) e
shapes_determined s (V.BigEndian numbers) p q h o u e = let z = sized s is_size h in numbers_determined.big numbers p q o.bytes u.bytes (same_length s is_size p q z o u) (length_holds s is_size p z o) e
shapes_determined s (V.Signed texts) p q h o u e = let z = sized s is_signed_size h in numbers_determined.signed texts p q o.bytes u.bytes (same_length s is_signed_size p q z o u) (length_holds s is_signed_size p z o) e
shapes_determined s V.Flags p q h o u e = let z = sized s is_size h in numbers_determined.flags p q o.bytes u.bytes (same_length s is_size p q z o u) (length_holds s is_size p z o) e
shapes_determined s (V.NamedFlags names) p q h o u e = let z = sized s is_size h in numbers_determined.named_flags names p q o.bytes u.bytes (same_length s is_size p q z o u) (length_holds s is_size p z o) e
shapes_determined s V.BigEndianFlags p q h o u e = let z = sized s is_size h in settings_determined.big p q o.bytes u.bytes (same_length s is_size p q z o u) (length_holds s is_size p z o) e
shapes_determined s V.Boolean p q h o u e =
    settings_determined.boolean p q o.bytes u.bytes (same_length s (λ n. true) p q (boolean_sized s h) o u) (at_most_one s p h o) (at_most_one s q h u) (ap (drop 1) e)
shapes_determined s V.Presence p q h o u e = presences s p q h o u
shapes_determined s V.OptionalByte p q h o u e = settings_determined.optional p q o.bytes u.bytes (optional_size s p h o) (optional_size s q h u) e
shapes_determined s V.Text p q h o u e = strings s p q h o u (bytes_determined.text p q o.bytes u.bytes (ap (drop 1) e))
shapes_determined s V.Bytes p q h o u e = bytes_determined.bytes p q o.bytes u.bytes e
shapes_determined s V.HardwareAddress p q h o u e = bytes_determined.hardware p q o.bytes u.bytes e
shapes_determined s V.Address p q h o u e = by_sizes s p q (length p == 4) (length q == 4) refl refl (address_size s p h o) (address_size s q h u) o u e
shapes_determined s V.PortRange p q h o u e = let z = sized s (λ n. n == 4) h in settings_determined.ports p q o.bytes u.bytes (length_is s 4 p z o) (length_is s 4 q z u) e
shapes_determined s (V.FlagsAndMask names) p q h o u e = let z = sized s (λ n. n == 8) h in settings_determined.masked names p q o.bytes u.bytes (length_is s 8 p z o) (length_is s 8 q z u) e
shapes_determined s (V.Record fields) p q h o u e = record_determined s false fields p q h o u e
shapes_determined s (V.SparseRecord fields) p q h o u e = record_determined s true fields p q h o u e
