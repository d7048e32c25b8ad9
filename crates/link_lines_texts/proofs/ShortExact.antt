-- How long the values of raw attributes are.
use Rattle.std.proofs.Common.{◌≡◌, ℕ, zero, suc, ◌+◌, ◌*◌, ◌/◌, ◌%◌, ◌^◌, ◌<◌, ◌≤◌, true, false, cond, List, [], ◌∷◌, ◌++◌, length, take, drop, max, ap, arith}
use Rattle.std.specs.Prelude.{◌==◌, ◌&&◌, codes, nat_le, nat_lt}
use Rattle.std.specs.Fmt.{decimal}
use Rattle.std.specs.Net.Addr.{segments_of}
use Rattle.std.specs.Net.Text.{ipv4_text, ipv6_text}
use Rattle.std.proofs.lemmas.Bool.{and_parts, cond_both, eqb-true, leb-true, ltb-true}
use Rattle.std.proofs.Math.Nat.{div-le_self, div-mul-le_self}
use Rattle.std.proofs.lemmas.Fmt.{length-decimal-le}
use Rattle.std.proofs.lemmas.List.{length-append, length-drop, length-take}
use Rattle.netlink_packet_core_grammar.specs.Bytes.{AreBytes}
use Rattle.netlink_packet_core_grammar.proofs.Bytes.{AreBytes-drop, AreBytes-take}
use Rattle.attribute_tables_grammar.specs.Shapes.{number}
use Rattle.link_lines_values.specs.declared.exact.ExactBy.TheVariants as E
use Rattle.link_lines_values.specs.Bytes.{bytes_text, hex_text, is_zero}
use Rattle.link_lines_values.specs.Digits.{big_endian, is_number}
use Rattle.link_lines_values.specs.Exact.{Exact, exact_text, label_after, label_text, label_value, pieces_text, raw_value, takes}
use Rattle.link_lines_values.specs.Names.{named_number}
use Rattle.link_lines_values.specs.Records.{Field, FieldShown, counter_name, counters_text, field_text, is_counters, slots_text, title_or, total_size}
use Rattle.link_lines_values.specs.Values.{number_value}
use Rattle.link_lines_texts.specs.Growth.{allowance, are_short_counters, factor, field_most, fields_most, is_short_exact, leaves_space, longest_title}
use Rattle.link_lines_texts.proofs.ShortBytes.{bytes_text_short, hardware_text_short, hex_text_short, ipv4_text_short, ipv6_text_short, quoted_short}
use Rattle.link_lines_texts.proofs.ShortNumbers.{big_small, named_short, number_small, size_of}
use Rattle.link_lines_texts.proofs.ShortValues.{IsShort, address_short, both, field_short, fields_short, one_field, or_bytes, space, value_short}

-- ---- pieces of one size

-- Each piece of n bytes has a text that is short enough for it.
abbrev ArePiecesShort : (List ℕ → List ℕ) → ℕ → Type 0
ArePiecesShort f n = (p : List ℕ) → AreBytes p → length p ≡ n → length (f p) ≤ factor * n

pieces_short : (f : List ℕ → List ℕ) (n k : ℕ) (p : List ℕ) → ArePiecesShort f n → AreBytes p → k * n ≤ length p → length (pieces_text f n k p) ≤ factor * (k * n)
pieces_short f n zero p h a l = omega arith
pieces_short f n (suc k) p h a l =
    let first = h (take n p) (AreBytes-take n p a) (omega (arith, length-take n p, l)) in
    let rest = pieces_short f n k (drop n p) h (AreBytes-drop n p a) (omega (arith, length-drop n p, l)) in
    omega (arith, first, rest, length-append (f (take n p)) (pieces_text f n k (drop n p)))

quotient : (n m : ℕ) → 1 ≤ m → n / m * m ≤ n
quotient n m h = div-mul-le_self n m

number_piece : (n : ℕ) → 1 ≤ n → ArePiecesShort (number_value []) n
number_piece n h p a l =
    both (is_number p) (32 ∷ named_number [] (number p)) (bytes_text p) (factor * n) (λ e. omega (arith, named_short (length p) [] (number p) (size_of (length p) e) (number_small p a), l, h)) (λ e. omega (arith, bytes_text_short p, l, h))

label_decimal : (n : ℕ) → n < 256 ^ 4 → length (decimal n) ≤ 12
label_decimal n h = length-decimal-le 12 n (omega arith) (omega (arith, h)) (omega (arith, h))

label_text_short : (n : ℕ) → n < 256 ^ 4 → length (label_text n) ≤ 60
label_text_short n h =
    let a = decimal (n / 4096) in
    let b = decimal (n / 512 % 8) in
    let c = decimal (n / 256 % 2) in
    let d = decimal (n % 256) in
    omega (
      arith,
      label_decimal (n / 4096) (omega (arith, h)),
      label_decimal (n / 512 % 8) (omega arith),
      label_decimal (n / 256 % 2) (omega arith),
      label_decimal (n % 256) (omega arith),
      length-append a (codes " tc " ++ (b ++ (codes " s " ++ (c ++ (codes " ttl " ++ d))))),
      length-append b (codes " s " ++ (c ++ (codes " ttl " ++ d))),
      length-append c (codes " ttl " ++ d),
    )

label_short : (p : List ℕ) → AreBytes p → length (label_value p) ≤ 60 + 2 * length p
label_short p a =
    both (length p == 4) (label_text (big_endian p)) (hex_text p) (60 + 2 * length p) (λ e. omega (arith, label_text_short (big_endian p) (omega (arith, ap (λ n. 256 ^ n) (eqb-true (length p) 4 e), big_small p a)))) (λ e. omega (arith, hex_text_short p))

label_piece : ArePiecesShort label_after 4
label_piece p a l = omega (arith, label_short p a, l)

-- ---- counters

name_of_counter : (fs : List Field) (n k : ℕ) → n < 2 ^ 64 → length (title_or fs n k) ≤ max 20 (longest_title fs)
name_of_counter [] n k h = omega (arith, length-decimal-le 20 n (omega arith) (omega (arith, h)) h)
name_of_counter (f ∷ fs) n zero h = omega arith
name_of_counter (f ∷ fs) n (suc k) h = omega (arith, name_of_counter fs n k h)

slots_short : (size : ℕ) (v : FieldShown) (fs : List Field) (i k : ℕ) (p : List ℕ) → 2 + max 20 (longest_title fs) + field_most v size ≤ factor * size → i + k < 2 ^ 64 → AreBytes p → k * size ≤ length p →
    length (slots_text size v fs i k p) ≤ factor * (k * size)
slots_short size v fs i zero p h n a l = omega arith
slots_short size v fs i (suc k) p h n a l =
    let part = take size p in
    let name = counter_name fs i in
    let first = cond (is_zero part) [] (field_text 61 (name, size, v) part) in
    omega (
      arith,
      h,
      both (is_zero part) [] (field_text 61 (name, size, v) part) (factor * size) (λ e. omega arith)
          (λ e. omega (arith, h, name_of_counter fs i i (omega (arith, n)), one_field 61 (name, size, v) part (field_most v size) (field_short v size part (AreBytes-take size p a) (omega (arith, length-take size p))))),
      slots_short size v fs (suc i) k (drop size p) h (omega (arith, n)) (AreBytes-drop size p a) (omega (arith, length-drop size p, l)),
      length-append first (slots_text size v fs (suc i) k (drop size p)),
    )

counters_by : (extra : ℕ) (f : Field) (fs : List Field) (p : List ℕ) → leaves_space extra ≡ true → are_short_counters (f ∷ fs) ≡ true → length p < 2 ^ 64 → AreBytes p → IsShort extra (counters_text (f ∷ fs) p) p
counters_by extra f fs p h k l a =
    let c = and_parts (nat_le 1 f.1) _ k in
    let low = leb-true 1 f.1 c.0 in
    let most = leb-true (2 + max 20 (longest_title (f ∷ fs)) + field_most f.2 f.1) (factor * f.1) c.1 in
    let count = length p / f.1 in
    let q = quotient (length p) f.1 low in
    let few = div-le_self (length p) f.1 in
    let slots = slots_text f.1 f.2 (f ∷ fs) 0 count p in
    omega (arith, space extra h, length-decimal-le 20 count (omega arith) (omega (arith, few, l)) (omega (arith, few, l)), slots_short f.1 f.2 (f ∷ fs) 0 count p most (omega (arith, few, l)) a q, q, length-append (decimal count) slots)

counters_short : (extra : ℕ) (fs : List Field) (p : List ℕ) → leaves_space extra ≡ true → are_short_counters fs ≡ true → length p < 2 ^ 64 → AreBytes p → IsShort extra (counters_text fs p) p
counters_short extra [] p h k l a = omega (arith, space extra h)
counters_short extra (f ∷ fs) p h k l a = counters_by extra f fs p h k l a

-- ---- values

-- The number of bytes of a raw value is known if it is taken.
numbers_short : (extra n : ℕ) (p : List ℕ) → leaves_space extra ≡ true → AreBytes p → nat_lt 0 n ≡ true → IsShort extra (pieces_text (number_value []) n (length p / n) p) p
numbers_short extra n p h a l =
    let low = ltb-true 0 n l in
    let q = quotient (length p) n (omega (arith, low)) in
    omega (arith, space extra h, q, pieces_short (number_value []) n (length p / n) p (number_piece n (omega (arith, low))) a q)

labels_short : (extra : ℕ) (p : List ℕ) → leaves_space extra ≡ true → AreBytes p → (nat_lt 0 (length p) && (length p % 4 == 0)) ≡ true → IsShort extra (32 ∷ (label_value (take 4 p) ++ pieces_text label_after 4 (length (drop 4 p) / 4) (drop 4 p))) p
labels_short extra p h a e =
    let low = ltb-true 0 (length p) (and_parts (nat_lt 0 (length p)) _ e).0 in
    let aligned = eqb-true (length p % 4) 0 (and_parts (nat_lt 0 (length p)) _ e).1 in
    let more = pieces_text label_after 4 (length (drop 4 p) / 4) (drop 4 p) in
    let q = quotient (length (drop 4 p)) 4 (omega arith) in
    omega (arith, space extra h, low, aligned, label_short (take 4 p) (AreBytes-take 4 p a), length-take 4 p, length-drop 4 p, pieces_short label_after 4 (length (drop 4 p) / 4) (drop 4 p) label_piece (AreBytes-drop 4 p a) q, q, length-append (label_value (take 4 p)) more)

via_short : (extra : ℕ) (p : List ℕ) → leaves_space extra ≡ true → AreBytes p →
    IsShort extra (cond (length p == 6) (codes " family=2 (AF_INET) addr=" ++ ipv4_text (drop 2 p)) (cond (length p == 18) (codes " family=10 (AF_INET6) addr=" ++ ipv6_text (segments_of (drop 2 p))) (bytes_text p))) p
via_short extra p h a =
    cond_both (length p == 6) (codes " family=2 (AF_INET) addr=" ++ ipv4_text (drop 2 p)) (cond (length p == 18) (codes " family=10 (AF_INET6) addr=" ++ ipv6_text (segments_of (drop 2 p))) (bytes_text p)) (λ s. IsShort extra s p)
    (λ e. omega (arith, space extra h, eqb-true (length p) 6 e, ipv4_text_short (drop 2 p) (AreBytes-drop 2 p a)))
    (λ e. or_bytes extra (length p == 18) (codes " family=10 (AF_INET6) addr=" ++ ipv6_text (segments_of (drop 2 p))) p h (λ f. omega (arith, space extra h, eqb-true (length p) 18 f, length-drop 2 p, ipv6_text_short (drop 2 p) (AreBytes-drop 2 p a) (omega (arith, eqb-true (length p) 18 f, length-drop 2 p)))))

bridge_short : (extra : ℕ) (p : List ℕ) → leaves_space extra ≡ true → IsShort extra (cond (length p == 8) (32 ∷ (hex_text (take 2 p) ++ 46 ∷ hex_text (drop 2 p))) (bytes_text p)) p
bridge_short extra p h =
    or_bytes extra (length p == 8) (32 ∷ (hex_text (take 2 p) ++ 46 ∷ hex_text (drop 2 p))) p h
    (λ e. omega (arith, space extra h, hex_text_short (take 2 p), hex_text_short (drop 2 p), length-take 2 p, length-drop 2 p, eqb-true (length p) 8 e, length-append (hex_text (take 2 p)) (46 ∷ hex_text (drop 2 p))))

plain_number : (extra : ℕ) (p : List ℕ) → leaves_space extra ≡ true → AreBytes p → IsShort extra (number_value [] p) p
plain_number extra p h a = or_bytes extra (is_number p) (32 ∷ named_number [] (number p)) p h (λ e. omega (arith, space extra h, named_short (length p) [] (number p) (size_of (length p) e) (number_small p a)))

exact_short : (extra : ℕ) (x : Exact) (p : List ℕ) → leaves_space extra ≡ true → is_short_exact extra x ≡ true → takes x p ≡ true → AreBytes p → IsShort extra (exact_text x p) p
exact_short extra (E.Number n) p h k t a = plain_number extra p h a
exact_short extra (E.Sized n shown) p h k t a = value_short extra n shown p h k (λ e. omega (arith, eqb-true (length p) n t)) a
exact_short extra E.Bytes p h k t a = omega (arith, space extra h, bytes_text_short p)
exact_short extra E.HardwareAddress p h k t a = omega (arith, space extra h, hardware_text_short p)
exact_short extra E.Address p h k t a = address_short extra p h a
exact_short extra E.Text p h k t a = omega (arith, space extra h, quoted_short p)
exact_short extra E.Uint p h k t a = plain_number extra p h a
exact_short extra (E.Numbers n) p h k t a =
    cond_both (n == 0) (bytes_text p) (pieces_text (number_value []) n (length p / n) p) (λ s. IsShort extra s p) (λ e. omega (arith, space extra h, bytes_text_short p)) (λ e. numbers_short extra n p h a (and_parts (nat_lt 0 n) _ t).0)
exact_short extra E.BridgeId p h k t a = bridge_short extra p h
exact_short extra E.Labels p h k t a = labels_short extra p h a t
exact_short extra E.Via p h k t a = via_short extra p h a
exact_short extra (E.Record fs) p h k t a =
    omega (arith, leb-true (extra + fields_most fs) (allowance + factor * total_size fs) k, eqb-true (length p) (total_size fs) t, fields_short 61 false fs p a)
exact_short extra (E.Counters fs) p h k t a = counters_short extra fs p h k (ltb-true (length p) 18446744073709551616 (and_parts (is_counters fs p) _ t).1) a

pub raw_value_short : (extra : ℕ) (x : Exact) (p : List ℕ) → leaves_space extra ≡ true → is_short_exact extra x ≡ true → AreBytes p → IsShort extra (raw_value x p) p
raw_value_short extra x p h k a = cond_both (takes x p) (exact_text x p) (codes " bytes" ++ bytes_text p) (λ s. IsShort extra s p) (λ e. exact_short extra x p h k e a) (λ e. omega (arith, space extra h, bytes_text_short p))
