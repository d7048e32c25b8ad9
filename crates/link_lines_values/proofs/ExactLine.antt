-- The text of a raw attribute's payload is empty or begins with a space, and is on one line.
use Rattle.std.proofs.Common.{◌≡◌, ℕ, zero, suc, ◌/◌, Bool, true, false, List, [], ◌∷◌, ◌++◌, length, take, drop, refl, arith}
use Rattle.std.specs.Prelude.{◌==◌, codes, cond}
use Rattle.std.specs.Fmt.{decimal}
use Rattle.std.specs.Net.Addr.{segments_of}
use Rattle.std.specs.Net.Text.{ipv4_text, ipv6_text}
use Rattle.std.proofs.lemmas.Bool.{and_parts, eqb-true}
use Rattle.std.proofs.lemmas.List.{length-drop}
use Rattle.link_lines_values.specs.declared.exact.ExactBy.TheVariants as E
use Rattle.link_lines_values.specs.declared.values.ShownBy.TheVariants as V
use Rattle.link_lines_values.specs.Bytes.{bytes_text, hex_text}
use Rattle.link_lines_values.specs.Digits.{big_endian, hex_byte}
use Rattle.link_lines_values.specs.Exact.{Exact, determines_exact, exact_text, label_after, label_text, label_value, labels_text, pieces_text, raw_value, takes}
use Rattle.link_lines_values.specs.Laws.{BeginsWithSpace, IsLine}
use Rattle.link_lines_values.specs.Records.{counters_determine}
use Rattle.link_lines_values.specs.Values.{are_fields_on_a_line, determines_sized, is_shown_on_a_line, number_value}
use Rattle.link_lines_values.proofs.ExactTaken.{record_parts}
use Rattle.link_lines_values.proofs.NumbersDetermined.{high}
use Rattle.link_lines_values.proofs.OneLine.{counters_are_lines, digits_line, either_line, either_space, fields_are_lines, hex_byte_line, is_line_checked, lines_joined, more_line, values_are_lines}

-- ---- a space at the start

bytes_space : (p : List ℕ) → BeginsWithSpace (bytes_text p)
bytes_space p = values_are_lines.space V.Bytes p

spaces_joined : (s t : List ℕ) → BeginsWithSpace s → BeginsWithSpace t → BeginsWithSpace (s ++ t)
spaces_joined [] t h k = k
spaces_joined (c ∷ s) t h k = h

pieces_space : (n k : ℕ) (p : List ℕ) → BeginsWithSpace (pieces_text (number_value []) n k p)
pieces_space n zero p = record {}
pieces_space n (suc k) p = spaces_joined (number_value [] (take n p)) _ (values_are_lines.space (V.Number []) (take n p)) (pieces_space n k (drop n p))

text_space : (x : Exact) (p : List ℕ) → BeginsWithSpace (exact_text x p)
text_space (E.Number n) p = values_are_lines.space (V.Number []) p
text_space (E.Sized n v) p = values_are_lines.space v p
text_space E.Bytes p = bytes_space p
text_space E.HardwareAddress p = values_are_lines.space V.HardwareAddress p
text_space E.Address p = values_are_lines.space V.Address p
text_space E.Text p = refl
text_space E.Uint p = values_are_lines.space (V.Number []) p
text_space (E.Numbers n) p = either_space (n == 0) (bytes_text p) _ (bytes_space p) (pieces_space n (length p / n) p)
text_space E.BridgeId p = either_space (length p == 8) _ (bytes_text p) refl (bytes_space p)
text_space E.Labels p = refl
text_space E.Via p = either_space (length p == 6) _ _ refl (either_space (length p == 18) _ (bytes_text p) refl (bytes_space p))
text_space (E.Record fs) p = fields_are_lines.space 61 false fs p
text_space (E.Counters fs) p = counters_are_lines.space fs p

pub raw_value_space : (x : Exact) (p : List ℕ) → BeginsWithSpace (raw_value x p)
raw_value_space x p = either_space (takes x p) (exact_text x p) _ (text_space x p) refl

-- ---- one line

bytes_line : (p : List ℕ) → IsLine (bytes_text p)
bytes_line p = values_are_lines.line V.Bytes p refl

decimal_line : (n : ℕ) → IsLine (decimal n)
decimal_line n = digits_line (decimal n) (high 10 n)

hex_line : (p : List ℕ) → IsLine (hex_text p)
hex_line [] = record {}
hex_line (b ∷ p) = lines_joined (hex_byte b) (hex_text p) (hex_byte_line b) (hex_line p)

pieces_line : (f : List ℕ → List ℕ) → ((p : List ℕ) → IsLine (f p)) → (n k : ℕ) (p : List ℕ) → IsLine (pieces_text f n k p)
pieces_line f each n zero p = record {}
pieces_line f each n (suc k) p = lines_joined (f (take n p)) _ (each (take n p)) (pieces_line f each n k (drop n p))

number_line : (p : List ℕ) → IsLine (number_value [] p)
number_line p = values_are_lines.line (V.Number []) p refl

ruleset joins = (lines_joined, more_line, is_line_checked)

label_line : (n : ℕ) → IsLine (label_text n)
label_line n = search (joins, decimal_line) depth 12

label_value_line : (p : List ℕ) → IsLine (label_value p)
label_value_line p = either_line (length p == 4) (label_text (big_endian p)) (hex_text p) (label_line (big_endian p)) (hex_line p)

label_after_line : (p : List ℕ) → IsLine (label_after p)
label_after_line p = lines_joined (codes " / ") (label_value p) (is_line_checked (codes " / ") refl) (label_value_line p)

labels_line : (p : List ℕ) → IsLine (labels_text p)
labels_line p =
    (omega arith, lines_joined (label_value (take 4 p)) _ (label_value_line (take 4 p)) (pieces_line label_after label_after_line 4 (length (drop 4 p) / 4) (drop 4 p)))

bridge_id_line : (p : List ℕ) → IsLine (32 ∷ (hex_text (take 2 p) ++ 46 ∷ hex_text (drop 2 p)))
bridge_id_line p = (omega arith, lines_joined (hex_text (take 2 p)) _ (hex_line (take 2 p)) (omega arith, hex_line (drop 2 p)))

ipv4_line : (o : List ℕ) → length o ≡ 4 → IsLine (ipv4_text o)
ipv4_line o l = let shown = values_are_lines.line V.Address o refl in (rw l at shown).1

ipv6_line : (o : List ℕ) → length o ≡ 16 → IsLine (ipv6_text (segments_of o))
ipv6_line o l = let shown = values_are_lines.line V.Address o refl in (rw l at shown).1

via_line_by : (p : List ℕ) (t u : Bool) → (length p == 6) ≡ t → (length p == 18) ≡ u →
    IsLine (cond t (codes " family=2 (AF_INET) addr=" ++ ipv4_text (drop 2 p)) (cond u (codes " family=10 (AF_INET6) addr=" ++ ipv6_text (segments_of (drop 2 p))) (bytes_text p)))
via_line_by p true u h k =
    lines_joined (codes " family=2 (AF_INET) addr=") _ (is_line_checked (codes " family=2 (AF_INET) addr=") refl)
    (ipv4_line (drop 2 p) (omega (arith, eqb-true (length p) 6 h, length-drop 2 p)))
via_line_by p false true h k =
    lines_joined (codes " family=10 (AF_INET6) addr=") _ (is_line_checked (codes " family=10 (AF_INET6) addr=") refl)
    (ipv6_line (drop 2 p) (omega (arith, eqb-true (length p) 18 k, length-drop 2 p)))
via_line_by p false false h k = bytes_line p

text_line : (x : Exact) (p : List ℕ) → determines_exact x ≡ true → IsLine (exact_text x p)
text_line (E.Number n) p h = number_line p
text_line (E.Sized n v) p h = values_are_lines.line v p (and_parts (determines_sized n v) (is_shown_on_a_line v) h).1
text_line E.Bytes p h = bytes_line p
text_line E.HardwareAddress p h = values_are_lines.line V.HardwareAddress p refl
text_line E.Address p h = values_are_lines.line V.Address p refl
text_line E.Text p h = values_are_lines.line V.Text p refl
text_line E.Uint p h = number_line p
text_line (E.Numbers n) p h = either_line (n == 0) (bytes_text p) _ (bytes_line p) (pieces_line (number_value []) number_line n (length p / n) p)
text_line E.BridgeId p h = either_line (length p == 8) _ (bytes_text p) (bridge_id_line p) (bytes_line p)
text_line E.Labels p h = labels_line p
text_line E.Via p h = via_line_by p _ _ refl refl
text_line (E.Record fs) p h = fields_are_lines.line 61 false fs p (omega arith) (record_parts fs h).1.1.1
text_line (E.Counters fs) p h = counters_are_lines.line fs p (and_parts (counters_determine fs) (are_fields_on_a_line fs) h).1

pub raw_value_line : (x : Exact) (p : List ℕ) → determines_exact x ≡ true → IsLine (raw_value x p)
raw_value_line x p h =
    either_line (takes x p) (exact_text x p) _ (text_line x p h)
    (lines_joined (codes " bytes") (bytes_text p) (is_line_checked (codes " bytes") refl) (bytes_line p))
