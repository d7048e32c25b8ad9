-- The text of a raw attribute's payload determines it.
use Rattle.std.proofs.Common.{◌≡◌, ℕ, ◌*◌, ◌/◌, ◌%◌, ◌<◌, ◌≤◌, ◌⊎◌, inl, inr, Bool, true, false, List, [], ◌∷◌, ◌++◌, length, take, drop, refl, sym, ap, ◌∙◌, arith}
use Rattle.std.specs.Prelude.{◌==◌, codes, cond, get_or, nat_lt}
use Rattle.std.proofs.lemmas.Bool.{and_parts, eqb-true}
use Rattle.std.proofs.lemmas.List.{length-drop}
use Rattle.netlink_packet_core_grammar.specs.Bytes.{AreBytes}
use Rattle.netlink_packet_core_grammar.proofs.Bytes.{AreBytes-drop, AreBytes-take}
use Rattle.attribute_tables_grammar.specs.Shapes.{number}
use Rattle.link_lines_values.specs.declared.exact.ExactBy.TheVariants as E
use Rattle.link_lines_values.specs.Bytes.{address_text, bytes_text, is_zero, quoted}
use Rattle.link_lines_values.specs.Digits.{is_number}
use Rattle.link_lines_values.specs.Exact.{Exact, bridge_id_text, determines_exact, exact_text, label_after, labels_text, numbers_text, pieces_text, raw_value, takes, via_text}
use Rattle.link_lines_values.specs.ExactLaws.{RawValuesAreDetermined}
use Rattle.link_lines_values.specs.Laws.{BeginsWithSpace}
use Rattle.link_lines_values.specs.Names.{named_number}
use Rattle.link_lines_values.specs.Records.{counters_determine, is_size}
use Rattle.link_lines_values.specs.Values.{are_fields_on_a_line, determines_sized, is_shown_on_a_line, number_value}
use Rattle.link_lines_values.proofs.CountersDetermined.{counters_determined}
use Rattle.link_lines_values.proofs.RecordsDetermined.{plain_determined}
use Rattle.link_lines_values.proofs.BytesDetermined.{byte_determined, bytes_determined, hex_determined}
use Rattle.link_lines_values.proofs.ExactApart.{text_apart}
use Rattle.link_lines_values.proofs.ExactLine.{raw_value_line, raw_value_space}
use Rattle.link_lines_values.proofs.ExactUnnested.{raw_value_unnested}
use Rattle.link_lines_values.proofs.ExactPieces.{label_value_determined, labels_separate, number_shown, numbers_separate, pieces_determined, pieces_end}
use Rattle.link_lines_values.proofs.ExactTaken.{UintSize, ViaSize, bridge_id_shown, counters_parts, either_size, family_bytes, multiple, numbers_shown, parts_of_bridge_id, record_parts, sizes_of_numbers, uint_size, via_16, via_16_shown, via_4, via_4_shown, via_size, whole_labels, with_nul}
use Rattle.link_lines_values.proofs.NumbersDetermined.{bounded, lowest_first, named_determined, numbers_determined}
use Rattle.link_lines_values.proofs.SizedDetermined.{sized_determined}
use Rattle.link_lines_values.proofs.SizesDetermined.{sizes_determined}
use Rattle.link_lines_values.proofs.ValuesDetermined.{addresses_determined, both_parts, ipv4_determined, ipv6_determined}
use Rattle.link_lines_values.proofs.Zeros.{zero_by_number}

-- ---- addresses

address : (p q : List ℕ) → (length p ≡ 4) ⊎ (length p ≡ 16) → (length q ≡ 4) ⊎ (length q ≡ 16) → AreBytes p → AreBytes q → address_text p ≡ address_text q → p ≡ q
address p q (inl i) (inl j) a b e = addresses_determined.ipv4 p q a b i j e
address p q (inl i) (inr j) a b e = absurd (sizes_determined p q a b i j e)
address p q (inr i) (inl j) a b e = absurd (sizes_determined q p b a j i (sym e))
address p q (inr i) (inr j) a b e = addresses_determined.ipv6 p q a b i j e

-- ---- texts

text : (p q : List ℕ) → takes E.Text p ≡ true → takes E.Text q ≡ true → AreBytes p → AreBytes q → 32 ∷ quoted p ≡ 32 ∷ quoted q → p ≡ q
text p q h k a b e = with_nul p h ∙ ap (λ z. z ++ 0 ∷ []) (bytes_determined.text p q a b (ap (drop 1) e)) ∙ sym (with_nul q k)

-- ---- numbers of the kernel's type uint

high_number : (q : List ℕ) → 4 ≤ length q → 4294967296 * number (drop 4 q) ≤ number q
high_number (a ∷ b ∷ c ∷ d ∷ q) l = omega arith
high_number q l = absurd (omega arith)

nonzero : (q : List ℕ) → is_zero q ≡ false → (number q ≡ 0 → ⊥)
nonzero q h e = let z : true ≡ false = sym (ap (λ n. n == 0) e) ∙ zero_by_number q ∙ h in absurd cc

large : (q : List ℕ) → length q ≡ 8 → is_zero (drop 4 q) ≡ false → 4294967296 ≤ number q
large q l h = let z = nonzero (drop 4 q) h in omega (arith, z, high_number q (omega arith))

same_number : (p q : List ℕ) → AreBytes p → AreBytes q → is_number p ≡ true → is_number q ≡ true → length p ≤ 8 → length q ≤ 8 → number_value [] p ≡ number_value [] q → number p ≡ number q
same_number p q a b h k i j e =
    let same : 32 ∷ named_number [] (number p) ≡ 32 ∷ named_number [] (number q) = sym (number_shown p h) ∙ e ∙ number_shown q k in
    (named_determined [] (number p) (number q) [] [] (lowest_first.small p a i) (lowest_first.small q b j) (record {}) (record {}) (ap (λ z. drop 1 z ++ []) same)).0

-- No number of 4 bytes is one for which 4 bytes don't suffice.
small_is_not_large : (p q : List ℕ) → AreBytes p → AreBytes q → length p ≡ 4 → length q ≡ 8 → is_zero (drop 4 q) ≡ false → number_value [] p ≡ number_value [] q → ⊥
small_is_not_large p q a b i j h e =
    let same = same_number p q a b (ap is_size i) (ap is_size j) (omega arith) (omega arith) e in
    omega (arith, same, bounded 4 p a (omega arith), large q j h)

uint : (p q : List ℕ) → UintSize p → UintSize q → AreBytes p → AreBytes q → number_value [] p ≡ number_value [] q → p ≡ q
uint p q (inl i) (inl j) a b e = numbers_determined.little [] p q a b (i ∙ sym j) (ap is_size i) e
uint p q (inl i) (inr j) a b e = absurd (small_is_not_large p q a b i j.0 j.1 e)
uint p q (inr i) (inl j) a b e = absurd (small_is_not_large q p b a j i.0 i.1 (sym e))
uint p q (inr i) (inr j) a b e = numbers_determined.little [] p q a b (i.0 ∙ sym j.0) (ap is_size i.0) e

-- ---- numbers one after the other

numbers : (n : ℕ) (p q : List ℕ) → is_size n ≡ true → takes (E.Numbers n) p ≡ true → takes (E.Numbers n) q ≡ true → AreBytes p → AreBytes q → numbers_text n p ≡ numbers_text n q → p ≡ q
numbers n p q s h k a b e =
    let i = multiple (length p) n (and_parts (nat_lt 0 n) (length p % n == 0) h).1 in
    let j = multiple (length q) n (and_parts (nat_lt 0 n) (length q % n == 0) k).1 in
    pieces_determined (number_value []) n (numbers_separate n s) (length p / n) (length q / n) p q i j a b (sym (numbers_shown n p s) ∙ e ∙ numbers_shown n q s)

-- ---- identifiers of bridges

bridge_id_parts : (p q : List ℕ) → 2 ≤ length p → 2 ≤ length q → AreBytes p → AreBytes q → parts_of_bridge_id p ≡ parts_of_bridge_id q → p ≡ q
bridge_id_parts (x ∷ y ∷ p) (z ∷ w ∷ q) i j a b e =
    let first = byte_determined x z a.0 b.0 (ap (λ l. get_or l 1 0) e) (ap (λ l. get_or l 2 0) e) in
    let second = byte_determined y w a.1.0 b.1.0 (ap (λ l. get_or l 3 0) e) (ap (λ l. get_or l 4 0) e) in
    let rest = hex_determined p q a.1.1 b.1.1 (ap (drop 6) e) in
    λ t. first t ∷ second t ∷ rest t
bridge_id_parts p q i j a b e = absurd (omega arith)

bridge_id : (p q : List ℕ) → takes E.BridgeId p ≡ true → takes E.BridgeId q ≡ true → AreBytes p → AreBytes q → bridge_id_text p ≡ bridge_id_text q → p ≡ q
bridge_id p q h k a b e =
    bridge_id_parts p q (omega (arith, eqb-true (length p) 8 h)) (omega (arith, eqb-true (length q) 8 k)) a b
    (sym (bridge_id_shown p h) ∙ e ∙ bridge_id_shown q k)

-- ---- labels

labels : (p q : List ℕ) → takes E.Labels p ≡ true → takes E.Labels q ≡ true → AreBytes p → AreBytes q → labels_text p ≡ labels_text q → p ≡ q
labels p q h k a b e =
    let x = whole_labels p h in
    let y = whole_labels q k in
    let j = length (drop 4 p) / 4 in
    let l = length (drop 4 q) / 4 in
    let first = label_value_determined (take 4 p) (take 4 q) (pieces_text label_after 4 j (drop 4 p)) (pieces_text label_after 4 l (drop 4 q)) x.0 y.0
    (AreBytes-take 4 p a) (AreBytes-take 4 q b) (pieces_end label_after 4 labels_separate j (drop 4 p) x.1) (pieces_end label_after 4 labels_separate l (drop 4 q) y.1) (ap (drop 1) e) in
    both_parts 4 p q first.0 (pieces_determined label_after 4 labels_separate j l (drop 4 p) (drop 4 q) x.1 y.1 (AreBytes-drop 4 p a) (AreBytes-drop 4 q b) first.1)

-- ---- gateways

via_4_determined : (p q : List ℕ) → length p ≡ 6 → length q ≡ 6 → AreBytes p → AreBytes q → via_4 p ≡ via_4 q → drop 2 p ≡ drop 2 q
via_4_determined p q i j a b e =
    ipv4_determined (drop 2 p) (drop 2 q) (AreBytes-drop 2 p a) (AreBytes-drop 2 q b) (omega (arith, length-drop 2 p)) (omega (arith, length-drop 2 q)) (ap (drop 25) e)

via_16_determined : (p q : List ℕ) → length p ≡ 18 → length q ≡ 18 → AreBytes p → AreBytes q → via_16 p ≡ via_16 q → drop 2 p ≡ drop 2 q
via_16_determined p q i j a b e =
    ipv6_determined (drop 2 p) (drop 2 q) (AreBytes-drop 2 p a) (AreBytes-drop 2 q b) (omega (arith, length-drop 2 p)) (omega (arith, length-drop 2 q)) (ap (drop 27) e)

differ : (m n : ℕ) → n < m → m ≡ n → ⊥
differ m n h e = omega (arith, h, e)

-- The digits of the families differ.
families_differ : (p q : List ℕ) → via_4 p ≡ via_16 q → ⊥
families_differ p q e = differ 50 49 (omega arith) (ap (λ l. get_or l 8 0) e)

via : (p q : List ℕ) → ViaSize p → ViaSize q → AreBytes p → AreBytes q → via_text p ≡ via_text q → p ≡ q
via p q (inl i) (inl j) a b e =
    both_parts 2 p q (family_bytes 2 p i.1 ∙ sym (family_bytes 2 q j.1)) (via_4_determined p q i.0 j.0 a b (sym (via_4_shown p i.0) ∙ e ∙ via_4_shown q j.0))
via p q (inl i) (inr j) a b e = absurd (families_differ p q (sym (via_4_shown p i.0) ∙ e ∙ via_16_shown q j.0))
via p q (inr i) (inl j) a b e = absurd (families_differ q p (sym (via_4_shown q j.0) ∙ sym e ∙ via_16_shown p i.0))
via p q (inr i) (inr j) a b e =
    both_parts 2 p q (family_bytes 10 p i.1 ∙ sym (family_bytes 10 q j.1)) (via_16_determined p q i.0 j.0 a b (sym (via_16_shown p i.0) ∙ e ∙ via_16_shown q j.0))

-- ---- values

value_determined : (x : Exact) (p q : List ℕ) → determines_exact x ≡ true → takes x p ≡ true → takes x q ≡ true → AreBytes p → AreBytes q → exact_text x p ≡ exact_text x q → p ≡ q
value_determined (E.Number n) p q h k l a b e = let i = eqb-true (length p) n k in numbers_determined.little [] p q a b (i ∙ sym (eqb-true (length q) n l)) (ap is_size i ∙ h) e
value_determined (E.Sized n v) p q h k l a b e = sized_determined.determined n v p q (and_parts (determines_sized n v) (is_shown_on_a_line v) h).0 a b (eqb-true (length p) n k) (eqb-true (length q) n l) e
value_determined E.Bytes p q h k l a b e = bytes_determined.bytes p q a b e
value_determined E.HardwareAddress p q h k l a b e = bytes_determined.hardware p q a b e
value_determined E.Address p q h k l a b e = address p q (either_size (length p) 4 16 k) (either_size (length q) 4 16 l) a b e
value_determined E.Text p q h k l a b e = text p q k l a b e
value_determined E.Uint p q h k l a b e = uint p q (uint_size p k) (uint_size q l) a b e
value_determined (E.Numbers n) p q h k l a b e = numbers n p q (sizes_of_numbers n h) k l a b e
value_determined E.BridgeId p q h k l a b e = bridge_id p q k l a b e
value_determined E.Labels p q h k l a b e = labels p q k l a b e
value_determined E.Via p q h k l a b e = via p q (via_size p k) (via_size q l) a b e
value_determined (E.Record fs) p q h k l a b e = let parts = record_parts fs h in plain_determined 61 fs p q parts.0 parts.1.0 a b k l e
value_determined (E.Counters fs) p q h k l a b e =
    let i = counters_parts fs p k in
    let j = counters_parts fs q l in
    counters_determined fs p q (and_parts (counters_determine fs) (are_fields_on_a_line fs) h).0 a b i.1 j.1 i.0 j.0 e

bytes_space : (p : List ℕ) → BeginsWithSpace (bytes_text p)
bytes_space [] = record {}
bytes_space (x ∷ p) = refl

determined_by : (x : Exact) (p q : List ℕ) (t u : Bool) → takes x p ≡ t → takes x q ≡ u → determines_exact x ≡ true → AreBytes p → AreBytes q →
    cond t (exact_text x p) (codes " bytes" ++ bytes_text p) ≡ cond u (exact_text x q) (codes " bytes" ++ bytes_text q) → p ≡ q
determined_by x p q true true k l h a b e = value_determined x p q h k l a b e
determined_by x p q true false k l h a b e = absurd (text_apart x p (bytes_text q) h k a (bytes_space q) e)
determined_by x p q false true k l h a b e = absurd (text_apart x q (bytes_text p) h l b (bytes_space p) (sym e))
determined_by x p q false false k l h a b e = bytes_determined.bytes p q a b (ap (drop 6) e)

pub raw_value_determined : (x : Exact) (p q : List ℕ) → determines_exact x ≡ true → AreBytes p → AreBytes q → raw_value x p ≡ raw_value x q → p ≡ q
raw_value_determined x p q h a b e = determined_by x p q (takes x p) (takes x q) refl refl h a b e

pub raw_values_determined : RawValuesAreDetermined
raw_values_determined = record { determined = raw_value_determined; space = raw_value_space; line = raw_value_line; unnested = raw_value_unnested }
