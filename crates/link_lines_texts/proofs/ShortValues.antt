-- How long values are on the line of an attribute.
use Rattle.std.proofs.Common.{◌≡◌, ℕ, ◌+◌, ◌*◌, ◌/◌, ◌%◌, ◌-◌, ◌^◌, ◌<◌, ◌≤◌, Bool, true, false, cond, List, [], ◌∷◌, ◌++◌, length, take, drop, refl, ap, arith}
use Rattle.std.specs.Prelude.{◌==◌, ◌&&◌, codes, nat_le}
use Rattle.std.specs.Fmt.{decimal, digits}
use Rattle.std.specs.Net.Addr.{segments_of}
use Rattle.std.specs.Net.Text.{ipv4_text, ipv6_text}
use Rattle.std.proofs.lemmas.Bool.{and_parts, cond_both, eqb-true, leb-true}
use Rattle.std.proofs.lemmas.Fmt.{length-decimal-le}
use Rattle.std.proofs.lemmas.List.{length-append, length-drop, length-take}
use Rattle.netlink_packet_core_grammar.specs.Bytes.{AreBytes}
use Rattle.netlink_packet_core_grammar.proofs.Bytes.{AreBytes-drop, AreBytes-take}
use Rattle.attribute_tables_grammar.specs.Shapes.{number}
use Rattle.link_lines_values.specs.declared.fields.FieldShownBy.TheVariants as F
use Rattle.link_lines_values.specs.declared.values.ShownBy.TheVariants as S
use Rattle.link_lines_values.specs.Bytes.{address_text, bytes_text, hex_text, is_zero}
use Rattle.link_lines_values.specs.Digits.{big_endian, half_of, hex_number, is_number, is_signed_size, signed_by}
use Rattle.link_lines_values.specs.Flags.{big_endian_flags, flags_text, word_flags}
use Rattle.link_lines_values.specs.Names.{Text, bracketed, named_number, named_signed, text_in}
use Rattle.link_lines_values.specs.Records.{Field, FieldShown, field_text, field_value, fields_text, group_address, group_text, handle_text, is_hidden, record_text, total_size, weight_text}
use Rattle.link_lines_values.specs.Values.{Shown, flags_and_mask_value, named_flags_value, optional_byte_value, port_range_value, value_text}
use Rattle.link_lines_texts.specs.Growth.{allowance, factor, field_most, fields_most, is_short_value, joined_size, leaves_space, longest}
use Rattle.link_lines_texts.proofs.ShortBytes.{boolean_text_short, bytes_text_short, colons_short, hardware_text_short, hex_text_short, ipv4_text_short, ipv6_text_short, padded_address_short, padded_text_short, quoted_short}
use Rattle.link_lines_texts.proofs.ShortNumbers.{IsSize, big_small, decimal_short, flags_text_short, hex_number_short, hex_short, name_short, named_short, number_small, signed_short, size_of, word_flags_short}

-- ---- fields

-- One of two texts, each short enough.
pub both : (b : Bool) (s t : List ℕ) (n : ℕ) → (b ≡ true → length s ≤ n) → (b ≡ false → length t ≤ n) → length (cond b s t) ≤ n
both true s t n h k = h refl
both false s t n h k = k refl

handle_short : (texts : List Text) (n : ℕ) → n < 256 ^ 4 → length (handle_text texts n) ≤ 12 + longest texts
handle_short texts n h =
    let high = digits 16 false (n / 65536) in
    let low = digits 16 false (n % 65536) in
    omega (arith, hex_short 3 (n / 65536) (omega (arith, h)), hex_short 3 (n % 65536) (omega arith), name_short texts n, length-append high (58 ∷ low), length-append (high ++ 58 ∷ low) (bracketed (text_in texts n)))

group_address_short : (protocol : ℕ) (p : List ℕ) → AreBytes p → length p ≤ 16 → length (group_address protocol p) ≤ 48
group_address_short protocol p a h =
    both ((protocol == 2048) && is_zero (drop 4 p)) _ _ 48 (λ e. omega (arith, ipv4_text_short (take 4 p) (AreBytes-take 4 p a)))
    (λ e. both (protocol == 34525) _ _ 48 (λ f. omega (arith, ipv6_text_short p a h)) (λ f. both ((protocol == 0) && is_zero (drop 6 p)) _ _ 48 (λ g. omega (arith, colons_short (take 6 p), length-take 6 p)) (λ g. omega (arith, hex_text_short p, h))))

group_short : (texts : List Text) (p : List ℕ) → AreBytes p → length p ≡ 18 → length (group_text texts p) ≤ 64 + longest texts
group_short texts p a h =
    let n = big_endian (drop 16 p) in
    let address = group_address n (take 16 p) in
    let s : IsSize (length (drop 16 p)) = record { low = omega (arith, length-drop 16 p, h); high = omega (arith, length-drop 16 p, h) } in
    omega (arith, group_address_short n (take 16 p) (AreBytes-take 16 p a) (omega (arith, length-take 16 p)), named_short (length (drop 16 p)) texts n s (big_small (drop 16 p) (AreBytes-drop 16 p a)), length-drop 16 p, h, length-append address (codes " proto " ++ named_number texts n))

number_field : (texts : List Text) (p : List ℕ) (size n : ℕ) → length p ≤ size → (is_number p ≡ true → n < 256 ^ length p) → length (cond (is_number p) (named_number texts n) (hex_text p)) ≤ 3 * size + 3 + longest texts
number_field texts p size n l h =
    both (is_number p) (named_number texts n) (hex_text p) (3 * size + 3 + longest texts) (λ e. omega (arith, named_short (length p) texts n (size_of (length p) e) (h e), l)) (λ e. omega (arith, hex_text_short p, l))

all_short : (t : Bool) → length (cond t (codes " (all)") []) ≤ 6
all_short true = omega arith
all_short false = omega arith

big_flags_short : (p : List ℕ) → AreBytes p → is_number p ≡ true → length (big_endian_flags p) ≤ 8 + 2 * length p
big_flags_short p a e =
    let n = big_endian p in
    let is_all = (length p == 4) && (n == 4294967295) in
    omega (arith, hex_number_short (length p) n (size_of (length p) e) (big_small p a), all_short is_all, length-append (hex_number n) (cond is_all (codes " (all)") []))

byte_short : (n : ℕ) → n ≤ 256 → length (decimal n) ≤ 3
byte_short n h = length-decimal-le 3 n (omega arith) (omega (arith, h)) (omega (arith, h))

weight_short : (p : List ℕ) → AreBytes p → length (weight_text p) ≤ 2 * length p + 17
weight_short [] a = omega arith
weight_short (hops ∷ []) a =
    let weight = decimal (hops + 1) ++ codes ")" in
    omega (arith, byte_short hops (omega (arith, a.0)), byte_short (hops + 1) (omega (arith, a.0)), length-append (decimal hops) (codes " (weight " ++ weight), length-append (decimal (hops + 1)) (codes ")"))
weight_short (x ∷ y ∷ p) a = omega (arith, hex_text_short (x ∷ y ∷ p))

-- The value of a field.
pub field_short : (f : FieldShown) (size : ℕ) (p : List ℕ) → AreBytes p → length p ≤ size → length (field_value f p) ≤ field_most f size
field_short (F.Number texts) size p a l = number_field texts p size (number p) l (λ e. number_small p a)
field_short F.Signed size p a l =
    both (is_signed_size (length p)) (signed_by (half_of (length p)) (number p)) (hex_text p) (2 * size + 13) (λ e. omega (arith, signed_short (length p) (number p), l)) (λ e. omega (arith, hex_text_short p, l))
field_short (F.BigEndian texts) size p a l = number_field texts p size (big_endian p) l (λ e. big_small p a)
field_short (F.Flags names) size p a l =
    both (is_number p) (flags_text names p) (hex_text p) (4 * size + 8 + joined_size names) (λ e. omega (arith, flags_text_short names p a (size_of (length p) e), l)) (λ e. omega (arith, hex_text_short p, l))
field_short F.BigEndianFlags size p a l =
    both (is_number p) (big_endian_flags p) (hex_text p) (2 * size + 8) (λ e. omega (arith, big_flags_short p a e, l)) (λ e. omega (arith, hex_text_short p, l))
field_short F.Weight size p a l = omega (arith, weight_short p a, l)
field_short F.Address size p a l = omega (arith, padded_address_short p, l)
field_short F.Boolean size p a l = boolean_text_short p
field_short (F.Handle texts) size p a l =
    both (length p == 4) (handle_text texts (number p)) (hex_text p) (2 * size + 12 + longest texts)
    (λ e. omega (arith, handle_short texts (number p) (omega (arith, ap (λ n. 256 ^ n) (eqb-true (length p) 4 e), number_small p a)))) (λ e. omega (arith, hex_text_short p, l))
field_short F.Text size p a l = omega (arith, padded_text_short p, l)
field_short (F.Group texts) size p a l = both (length p == 18) (group_text texts p) (hex_text p) (2 * size + 64 + longest texts) (λ e. omega (arith, group_short texts p a (eqb-true (length p) 18 e))) (λ e. omega (arith, hex_text_short p, l))
field_short F.Ipv6 size p a l =
    both (length p == 16) (ipv6_text (segments_of p)) (hex_text p) (2 * size + 46) (λ e. omega (arith, ipv6_text_short p a (omega (arith, eqb-true (length p) 16 e)))) (λ e. omega (arith, hex_text_short p, l))
field_short F.Padding size p a l = omega (arith, hex_text_short p, l)

pub one_field : (separator : ℕ) (f : Field) (p : List ℕ) (m : ℕ) → length (field_value f.2 p) ≤ m → length (field_text separator f p) ≤ 2 + length f.0 + m
one_field separator f p m h = omega (arith, h, length-append f.0 (separator ∷ field_value f.2 p))

pub fields_short : (separator : ℕ) (is_sparse : Bool) (fs : List Field) (p : List ℕ) → AreBytes p → length (fields_text separator is_sparse fs p) ≤ fields_most fs
fields_short separator is_sparse [] p a = omega arith
fields_short separator is_sparse (f ∷ fs) p a =
    let part = take f.1 p in
    let first = cond (is_hidden is_sparse f.2 part) [] (field_text separator f part) in
    let m = 2 + length f.0 + field_most f.2 f.1 in
    omega (
      arith,
      both (is_hidden is_sparse f.2 part) [] (field_text separator f part) m (λ e. omega arith) (λ e. one_field separator f part (field_most f.2 f.1) (field_short f.2 f.1 part (AreBytes-take f.1 p a) (omega (arith, length-take f.1 p)))),
      fields_short separator is_sparse fs (drop f.1 p) (AreBytes-drop f.1 p a),
      length-append first (fields_text separator is_sparse fs (drop f.1 p)),
    )

-- ---- values

-- A text after a name and a word of `extra` bytes is short enough for these bytes.
abbrev pub IsShort : ℕ → List ℕ → List ℕ → Type 0
IsShort extra s p = extra + length s ≤ allowance + factor * length p

pub space : (extra : ℕ) → leaves_space extra ≡ true → extra + 46 ≤ allowance
space extra h = leb-true (extra + 46) allowance h

-- One of two texts, of which the second is bytes.
pub or_bytes : (extra : ℕ) (b : Bool) (s p : List ℕ) → leaves_space extra ≡ true → (b ≡ true → IsShort extra s p) → IsShort extra (cond b s (bytes_text p)) p
or_bytes extra true s p h k = k refl
or_bytes extra false s p h k = omega (arith, space extra h, bytes_text_short p)

pub number_by : (extra : ℕ) (texts : List Text) (p : List ℕ) (n : ℕ) → leaves_space extra ≡ true → nat_le (extra + 4 + longest texts) allowance ≡ true → n < 256 ^ length p → IsShort extra (cond (is_number p) (32 ∷ named_number texts n) (bytes_text p)) p
number_by extra texts p n h k l = or_bytes extra (is_number p) (32 ∷ named_number texts n) p h (λ e. omega (arith, leb-true (extra + 4 + longest texts) allowance k, named_short (length p) texts n (size_of (length p) e) l))

pub address_short : (extra : ℕ) (p : List ℕ) → leaves_space extra ≡ true → AreBytes p → IsShort extra (address_text p) p
address_short extra p h a =
    cond_both (length p == 4) (32 ∷ ipv4_text p) (cond (length p == 16) (32 ∷ ipv6_text (segments_of p)) (bytes_text p)) (λ s. IsShort extra s p) (λ e. omega (arith, space extra h, ipv4_text_short p a))
    (λ e. or_bytes extra (length p == 16) (32 ∷ ipv6_text (segments_of p)) p h (λ f. omega (arith, space extra h, ipv6_text_short p a (omega (arith, eqb-true (length p) 16 f)))))

optional_short : (extra : ℕ) (p : List ℕ) → leaves_space extra ≡ true → AreBytes p → IsShort extra (optional_byte_value p) p
optional_short extra [] h a = omega (arith, space extra h)
optional_short extra (b ∷ []) h a = omega (arith, space extra h, length-decimal-le 3 b (omega arith) (omega (arith, a.0)) (omega (arith, a.0)))
optional_short extra (b ∷ c ∷ p) h a = omega (arith, space extra h, bytes_text_short (b ∷ c ∷ p))

-- A number of a part.
part_decimal : (p : List ℕ) (k : ℕ) → AreBytes p → 1 ≤ length p → length p ≤ k → k ≤ 8 → length (decimal (big_endian p)) ≤ 3 * k
part_decimal p k a low l h = omega (arith, decimal_short (length p) (big_endian p) (record { low = low; high = omega (arith, l, h) }) (big_small p a), l)

port_range_short : (extra : ℕ) (p : List ℕ) → leaves_space extra ≡ true → AreBytes p → IsShort extra (port_range_value p) p
port_range_short extra p h a =
    let x = decimal (big_endian (take 2 p)) in
    let y = decimal (big_endian (drop 2 p)) in
    or_bytes extra (length p == 4) (32 ∷ (x ++ 32 ∷ y)) p h
    (λ e.
    let l = eqb-true (length p) 4 e in
    omega (arith, space extra h, length-append x (32 ∷ y), part_decimal (take 2 p) 2 (AreBytes-take 2 p a) (omega (arith, length-take 2 p, l)) (omega (arith, length-take 2 p)) (omega arith), part_decimal (drop 2 p) 2 (AreBytes-drop 2 p a) (omega (arith, length-drop 2 p, l)) (omega (arith, length-drop 2 p, l)) (omega arith)))

four : IsSize 4
four = record { low = omega arith; high = omega arith }

word_small : (p : List ℕ) → AreBytes p → length p ≡ 4 → number p < 256 ^ 4
word_small p a l = omega (arith, ap (λ n. 256 ^ n) l, number_small p a)

mask_short : (extra : ℕ) (names : List Text) (p : List ℕ) → leaves_space extra ≡ true → nat_le (extra + 55 + 2 * joined_size names) (allowance + factor * 8) ≡ true → AreBytes p → IsShort extra (flags_and_mask_value names p) p
mask_short extra names p h k a =
    let x = word_flags names (number (take 4 p)) in
    let y = word_flags names (number (drop 4 p)) in
    or_bytes extra (length p == 8) (32 ∷ (x ++ (codes " mask " ++ y))) p h
    (λ e.
    let l = eqb-true (length p) 8 e in
    omega (arith, leb-true (extra + 55 + 2 * joined_size names) (allowance + factor * 8) k, l, length-append x (codes " mask " ++ y), word_flags_short 4 names (number (take 4 p)) four (word_small (take 4 p) (AreBytes-take 4 p a) (omega (arith, length-take 4 p, l))), word_flags_short 4 names (number (drop 4 p)) four (word_small (drop 4 p) (AreBytes-drop 4 p a) (omega (arith, length-drop 4 p, l)))))

flags_value_short : (extra least : ℕ) (names : List Text) (p : List ℕ) → leaves_space extra ≡ true → nat_le (extra + 9 + joined_size names) (allowance + (factor - 4) * least) ≡ true → (is_number p ≡ true → least ≤ length p) → AreBytes p → IsShort extra (named_flags_value names p) p
flags_value_short extra least names p h k l a =
    or_bytes extra (is_number p) (32 ∷ flags_text names p) p h (λ e. omega (arith, leb-true (extra + 9 + joined_size names) (allowance + (factor - 4) * least) k, l e, flags_text_short names p a (size_of (length p) e)))

plain_flags_short : (extra : ℕ) (p : List ℕ) → leaves_space extra ≡ true → AreBytes p → IsShort extra (named_flags_value [] p) p
plain_flags_short extra p h a = or_bytes extra (is_number p) (32 ∷ flags_text [] p) p h (λ e. omega (arith, space extra h, flags_text_short [] p a (size_of (length p) e)))

record_short : (extra : ℕ) (is_sparse : Bool) (fs : List Field) (p : List ℕ) → leaves_space extra ≡ true → nat_le (extra + fields_most fs) (allowance + factor * total_size fs) ≡ true → AreBytes p → IsShort extra (record_text is_sparse fs p) p
unfolding record_text
record_short extra is_sparse fs p h k a =
    let n = total_size fs in
    or_bytes extra (nat_le n (length p) && is_zero (drop n p)) (fields_text 61 is_sparse fs (take n p)) p h
    (λ e. omega (arith, leb-true (extra + fields_most fs) (allowance + factor * n) k, leb-true n (length p) (and_parts (nat_le n (length p)) _ e).0, fields_short 61 is_sparse fs (take n p) (AreBytes-take n p a)))

-- A value is short enough if its format is, and numbers have `least` bytes or more.
pub value_short : (extra least : ℕ) (v : Shown) (p : List ℕ) → leaves_space extra ≡ true → is_short_value extra least v ≡ true → (is_number p ≡ true → least ≤ length p) → AreBytes p → IsShort extra (value_text v p) p
value_short extra least (S.Number texts) p h k l a = number_by extra texts p (number p) h k (number_small p a)
value_short extra least (S.BigEndian texts) p h k l a = number_by extra texts p (big_endian p) h k (big_small p a)
value_short extra least (S.Signed texts) p h k l a =
    or_bytes extra (is_signed_size (length p)) (32 ∷ named_signed texts (length p) (number p)) p h
    (λ e. omega (arith, leb-true (extra + 17 + longest texts) allowance k, signed_short (length p) (number p), name_short texts (number p), length-append (signed_by (half_of (length p)) (number p)) (bracketed (text_in texts (number p)))))
value_short extra least S.Flags p h k l a = plain_flags_short extra p h a
value_short extra least (S.NamedFlags names) p h k l a = flags_value_short extra least names p h k l a
value_short extra least S.BigEndianFlags p h k l a =
    or_bytes extra (is_number p) (32 ∷ big_endian_flags p) p h (λ e. omega (arith, space extra h, big_flags_short p a e))
value_short extra least S.Boolean p h k l a = omega (arith, space extra h, boolean_text_short p)
value_short extra least S.Presence p h k l a = omega (arith, space extra h)
value_short extra least S.OptionalByte p h k l a = optional_short extra p h a
value_short extra least S.Text p h k l a = omega (arith, space extra h, quoted_short p)
value_short extra least S.Bytes p h k l a = omega (arith, space extra h, bytes_text_short p)
value_short extra least S.HardwareAddress p h k l a = omega (arith, space extra h, hardware_text_short p)
value_short extra least S.Address p h k l a = address_short extra p h a
value_short extra least S.PortRange p h k l a = port_range_short extra p h a
value_short extra least (S.FlagsAndMask names) p h k l a = mask_short extra names p h k a
value_short extra least (S.Record fs) p h k l a = record_short extra false fs p h k a
value_short extra least (S.SparseRecord fs) p h k l a = record_short extra true fs p h k a
