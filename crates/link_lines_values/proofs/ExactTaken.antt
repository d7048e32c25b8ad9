-- What is known of a payload that is shown by its value.
use Rattle.std.proofs.Common.{◌≡◌, ℕ, zero, suc, ◌-◌, ◌*◌, ◌/◌, ◌%◌, ◌^◌, ◌<◌, ◌≤◌, ◌⊎◌, inl, inr, Bool, true, false, List, [], ◌∷◌, ◌++◌, length, take, drop, refl, sym, ap, ◌∙◌, arith}
use Rattle.std.specs.Prelude.{◌==◌, ◌&&◌, ◌||◌, codes, cond, nat_lt, not}
use Rattle.std.specs.Net.Addr.{segments_of}
use Rattle.std.specs.Net.Text.{ipv4_text, ipv6_text}
use Rattle.std.proofs.Math.Nat.{div-mul-le_self, mod-eq-sub-div-mul}
use Rattle.std.proofs.lemmas.Bool.{and_parts, eqb-true, ltb-true}
use Rattle.std.proofs.lemmas.Bool.Decides.{nat_tests}
use Rattle.netlink_packet_core_grammar.specs.Texts.{without_nul}
use Rattle.std.proofs.lemmas.List.{length-take, length-drop}
use Rattle.link_lines_values.specs.declared.exact.ExactBy.TheVariants as E
use Rattle.link_lines_values.specs.Bytes.{bytes_text, hex_text, is_zero}
use Rattle.link_lines_values.specs.Exact.{are_counters, begins_with_word, bridge_id_text, determines_exact, ends_with_nul, has_family, is_uint, is_via, numbers_text, pieces_text, takes, via_text}
use Rattle.link_lines_values.specs.Records.{Field, fields_determine, has_no_booleans, is_counters, is_record, is_size, total_size}
use Rattle.link_lines_values.specs.Values.{are_fields_on_a_line, number_value}

-- ---- sizes

either_by : (n a b : ℕ) (t : Bool) → (n == a) ≡ t → (t || (n == b)) ≡ true → (n ≡ a) ⊎ (n ≡ b)
either_by n a b true h k = inl (eqb-true n a h)
either_by n a b false h k = inr (eqb-true n b k)

pub either_size : (n a b : ℕ) → ((n == a) || (n == b)) ≡ true → (n ≡ a) ⊎ (n ≡ b)
either_size n a b h = either_by n a b _ refl h

pub sizes_of_numbers : (n : ℕ) → ((n == 2) || (n == 4)) ≡ true → is_size n ≡ true
sizes_of_numbers n h = grind (arith, nat_tests)

pub not_zero : (n : ℕ) → is_size n ≡ true → (n == 0) ≡ false
not_zero n h = grind (arith, nat_tests)

-- A number without a remainder is a multiple.
pub multiple : (m n : ℕ) → (m % n == 0) ≡ true → m ≡ m / n * n
multiple m n h = omega (arith, eqb-true (m % n) 0 h, mod-eq-sub-div-mul m n, div-mul-le_self m n)

-- ---- texts

nul_alone : (b : ℕ) → (suc b == 0) ≡ true → ⊥
nul_alone b h = let z : suc b ≡ 0 = eqb-true (suc b) 0 h in omega arith

pub with_nul : (p : List ℕ) → ends_with_nul p ≡ true → p ≡ without_nul p ++ 0 ∷ []
with_nul [] h = absurd cc
with_nul (zero ∷ []) h = refl
with_nul (suc b ∷ []) h = absurd (nul_alone b h)
with_nul (b ∷ c ∷ p) h = ap (λ z. b ∷ z) (with_nul (c ∷ p) h)

-- ---- numbers of the kernel's type uint

-- There are 4 bytes, or 8 of which the last four aren't all zero.
abbrev pub UintSize : List ℕ → Type 0
UintSize p = (length p ≡ 4) ⊎ ((length p ≡ 8) × (is_zero (drop 4 p) ≡ false))

not_true : (b : Bool) → not b ≡ true → b ≡ false
not_true true h = absurd cc
not_true false h = refl

uint_by : (p : List ℕ) (t : Bool) → (length p == 4) ≡ t → (t || ((length p == 8) && not (is_zero (drop 4 p)))) ≡ true → UintSize p
uint_by p true h k = inl (eqb-true (length p) 4 h)
uint_by p false h k =
    let parts = and_parts (length p == 8) (not (is_zero (drop 4 p))) k in
    inr (eqb-true (length p) 8 parts.0, not_true (is_zero (drop 4 p)) parts.1)

pub uint_size : (p : List ℕ) → is_uint p ≡ true → UintSize p
uint_size p h = uint_by p _ refl h

-- ---- gateways

-- There are 4 bytes after the family 2, or 16 after the family 10.
abbrev pub ViaSize : List ℕ → Type 0
ViaSize p = ((length p ≡ 6) × (has_family 2 p ≡ true)) ⊎ ((length p ≡ 18) × (has_family 10 p ≡ true))

via_by : (p : List ℕ) (t : Bool) → (length p == 6) ≡ t → cond t (has_family 2 p) ((length p == 18) && has_family 10 p) ≡ true → ViaSize p
via_by p true h k = inl (eqb-true (length p) 6 h, k)
via_by p false h k =
    let parts = and_parts (length p == 18) (has_family 10 p) k in
    inr (eqb-true (length p) 18 parts.0, parts.1)

pub via_size : (p : List ℕ) → is_via p ≡ true → ViaSize p
via_size p h = via_by p _ refl h

pub family_bytes : (f : ℕ) (p : List ℕ) → has_family f p ≡ true → take 2 p ≡ f ∷ 0 ∷ []
family_bytes f (low ∷ high ∷ p) h =
    let parts = and_parts (low == f) (high == 0) h in
    let x = eqb-true low f parts.0 in
    let y = eqb-true high 0 parts.1 in
    λ i. x i ∷ y i ∷ []
family_bytes f (low ∷ []) h = absurd cc
family_bytes f [] h = absurd cc

-- ---- texts of these payloads

abbrev pub numbers_of : ℕ → List ℕ → List ℕ
numbers_of n p = pieces_text (number_value []) n (length p / n) p

pub numbers_shown : (n : ℕ) (p : List ℕ) → is_size n ≡ true → numbers_text n p ≡ numbers_of n p
numbers_shown n p h = ap (λ t. cond t (bytes_text p) (numbers_of n p)) (not_zero n h)

abbrev pub parts_of_bridge_id : List ℕ → List ℕ
parts_of_bridge_id p = 32 ∷ (hex_text (take 2 p) ++ 46 ∷ hex_text (drop 2 p))

pub bridge_id_shown : (p : List ℕ) → (length p == 8) ≡ true → bridge_id_text p ≡ parts_of_bridge_id p
bridge_id_shown p h = ap (λ t. cond t (parts_of_bridge_id p) (bytes_text p)) h

-- At least 4 bytes, and a multiple of 4 after these.
of_labels : (n : ℕ) → nat_lt 0 n ≡ true → (n % 4 == 0) ≡ true → (4 ≤ n) × (n - 4 ≡ (n - 4) / 4 * 4)
of_labels n h k =
    let x = ltb-true 0 n h in
    let y = eqb-true (n % 4) 0 k in
    (omega (arith, x, y), omega (arith, x, y))

pub whole_labels : (p : List ℕ) → takes E.Labels p ≡ true → (length (take 4 p) ≡ 4) × (length (drop 4 p) ≡ length (drop 4 p) / 4 * 4)
whole_labels p h =
    let parts = and_parts (nat_lt 0 (length p)) (length p % 4 == 0) h in
    let sizes = of_labels (length p) parts.0 parts.1 in
    (omega (arith, sizes.0, length-take 4 p), length-drop 4 p ∙ sizes.1 ∙ ap (λ n. n / 4 * 4) (sym (length-drop 4 p)))

abbrev pub via_4 : List ℕ → List ℕ
via_4 p = codes " family=2 (AF_INET) addr=" ++ ipv4_text (drop 2 p)

abbrev pub via_16 : List ℕ → List ℕ
via_16 p = codes " family=10 (AF_INET6) addr=" ++ ipv6_text (segments_of (drop 2 p))

abbrev pub via_of : ℕ → List ℕ → List ℕ
via_of n p = cond (n == 6) (via_4 p) (cond (n == 18) (via_16 p) (bytes_text p))

pub via_4_shown : (p : List ℕ) → length p ≡ 6 → via_text p ≡ via_4 p
via_4_shown p l = ap (λ n. via_of n p) l

pub via_16_shown : (p : List ℕ) → length p ≡ 18 → via_text p ≡ via_16 p
via_16_shown p l = ap (λ n. via_of n p) l

-- ---- records

-- The parts of the test whether a record's text determines it.
pub record_parts : (fs : List Field) → determines_exact (E.Record fs) ≡ true → (fields_determine 61 fs ≡ true) × ((has_no_booleans fs ≡ true) × ((begins_with_word fs ≡ true) × (are_fields_on_a_line fs ≡ true)))
record_parts fs h =
    let sizes = and_parts (fields_determine 61 fs) _ h in
    let booleans = and_parts (has_no_booleans fs) _ sizes.1 in
    (sizes.0, (booleans.0, and_parts (begins_with_word fs) (are_fields_on_a_line fs) booleans.1))

pub record_size : (fs : List Field) (p : List ℕ) → is_record fs p ≡ true → length p ≡ total_size fs
record_size fs p h = eqb-true (length p) (total_size fs) h

pub counters_parts : (fs : List Field) (p : List ℕ) → are_counters fs p ≡ true → (is_counters fs p ≡ true) × (length p < 2 ^ 64)
counters_parts fs p h =
    let parts = and_parts (is_counters fs p) (nat_lt (length p) 18446744073709551616) h in
    (parts.0, omega (arith, ltb-true (length p) 18446744073709551616 parts.1))

pub counters_sized : (fs : List Field) (p : List ℕ) → are_counters fs p ≡ true → is_counters fs p ≡ true
counters_sized fs p h = (counters_parts fs p h).0

pub ruleset of_a_record = (record_size, counters_sized)
