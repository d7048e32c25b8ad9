-- A value's text is on one line, and is empty or begins with a space.
use Rattle.std.proofs.Common.{◌≡◌, ℕ, zero, suc, ◌+◌, ◌/◌, ◌%◌, ◌≤◌, Bool, true, false, List, [], ◌∷◌, ◌++◌, length, take, drop, refl, arith}
use Rattle.std.specs.Prelude.{◌==◌, ◌&&◌, ◌||◌, bit_and, codes, cond, flat_map, nat_le, nat_lt}
use Rattle.std.specs.Fmt.{decimal, digits}
use Rattle.std.specs.List.{AllByRecursion, list_all}
use Rattle.std.specs.Net.Text.{ipv4_text, ipv6_text}
use Rattle.std.proofs.lemmas.Bool.{and_parts, leb-true}
use Rattle.std.proofs.lemmas.Bool.Decides.{nat_tests}
use Rattle.netlink_packet_core_grammar.specs.Texts.{without_nul}
use Rattle.attribute_tables_grammar.specs.Shapes.{number}
use Rattle.link_lines_values.specs.declared.fields.FieldShownBy.TheVariants as F
use Rattle.link_lines_values.specs.declared.values.ShownBy.TheVariants as S
use Rattle.link_lines_values.specs.Bytes.{address_text, bytes_text, colon_byte, colons, count_without_zeros, escaped, hardware_text, hex_text, is_zero, quoted, boolean_text}
use Rattle.link_lines_values.specs.Digits.{big_endian, half_of, hex_byte, hex_number, signed_by}
use Rattle.link_lines_values.specs.Flags.{big_endian_flags, listed, named_flags, nameless, nameless_flags, nameless_text, names_set, separated, word_flags}
use Rattle.link_lines_values.specs.Laws.{BeginsWithSpace, CountersAreOnALine, FieldsAreOnALine, IsLine, ValuesAreOnALine}
use Rattle.link_lines_values.specs.Names.{Text, bracketed, named_number, named_signed, text_in}
use Rattle.link_lines_values.specs.Records.{Field, FieldShown, counter_name, counters_text, field_text, field_value, fields_text, group_address, group_text, handle_text, is_hidden, nonzero_text, record_text, slots_text, title_or, total_size, weight_text}
use Rattle.link_lines_values.specs.Values.{Shown, are_fields_on_a_line, flags_and_mask_value, is_field_on_a_line, is_line, is_shown_on_a_line, named_flags_value, value_text}
use Rattle.link_lines_values.proofs.NumbersDetermined.{Digits, high, high_glyph}
use Rattle.link_lines_values.proofs.Solid.{Solid, ipv4_solid, ipv6_solid}

-- ---- lines in general

pub lines_joined : (s t : List ℕ) → IsLine s → IsLine t → IsLine (s ++ t)
lines_joined [] t h k = k
lines_joined (c ∷ s) t h k = (h.0, lines_joined s t h.1 k)

pub either_line : (test : Bool) (s t : List ℕ) → IsLine s → IsLine t → IsLine (cond test s t)
either_line true s t h k = h
either_line false s t h k = k

pub more_line : (c : ℕ) (s : List ℕ) → nat_le 32 c ≡ true → IsLine s → IsLine (c ∷ s)
more_line c s l h = (leb-true 32 c l, h)

-- Texts made of parts.
ruleset joins = (either_line, more_line, lines_joined)

lines_mapped : (f : ℕ → List ℕ) → ((n : ℕ) → IsLine (f n)) → (p : List ℕ) → IsLine (flat_map f p)
lines_mapped f each [] = record {}
lines_mapped f each (n ∷ p) = lines_joined (f n) (flat_map f p) (each n) (lines_mapped f each p)

-- The test of a text that is written out.
pub is_line_checked : (s : List ℕ) → is_line s ≡ true → IsLine s
is_line_checked [] h = record {}
is_line_checked (c ∷ s) h =
    let parts = and_parts (nat_le 32 c) (is_line s) h in
    (leb-true 32 c parts.0, is_line_checked s parts.1)

-- ---- digits

over_space : (c : ℕ) → 48 ≤ c → 32 ≤ c
over_space c h = omega arith

pub digits_line : (s : List ℕ) → Digits s → IsLine s
digits_line [] h = record {}
digits_line (c ∷ s) h = (over_space c h.0, digits_line s h.1)

decimal_line : (n : ℕ) → IsLine (decimal n)
decimal_line n = digits_line (decimal n) (high 10 n)

hex_line : (n : ℕ) → IsLine (hex_number n)
hex_line n = lines_joined (codes "0x") (digits 16 false n) (is_line_checked (codes "0x") refl) (digits_line (digits 16 false n) (high 16 n))

signed_line : (half n : ℕ) → IsLine (signed_by half n)
signed_line half n = search (joins, decimal_line)

pub glyph_line : (d : ℕ) → 32 ≤ cond (nat_lt d 10) (48 + d) (87 + d)
glyph_line d = over_space _ (high_glyph d)

pub hex_byte_line : (byte : ℕ) → IsLine (hex_byte byte)
hex_byte_line byte = (glyph_line (byte / 16), (glyph_line (byte % 16), record {}))

-- ---- bytes

hex_text_line : (p : List ℕ) → IsLine (hex_text p)
hex_text_line p = lines_mapped hex_byte hex_byte_line p

bytes_line : (p : List ℕ) → IsLine (bytes_text p)
bytes_line [] = record {}
bytes_line (byte ∷ p) = (omega arith, hex_text_line (byte ∷ p))

colon_byte_line : (byte : ℕ) → IsLine (colon_byte byte)
colon_byte_line byte = (omega arith, hex_byte_line byte)

colons_line : (p : List ℕ) → IsLine (colons p)
colons_line [] = record {}
colons_line (byte ∷ p) = lines_joined (hex_byte byte) (flat_map colon_byte p) (hex_byte_line byte) (lines_mapped colon_byte colon_byte_line p)

hardware_line : (p : List ℕ) → IsLine (hardware_text p)
hardware_line [] = record {}
hardware_line (byte ∷ p) = (omega arith, colons_line (byte ∷ p))

shown_line : (byte : ℕ) (t : Bool) → (nat_le 32 byte && nat_lt byte 127) ≡ t → IsLine (cond t (byte ∷ []) (92 ∷ 120 ∷ hex_byte byte))
shown_line byte true h = (leb-true 32 byte (and_parts (nat_le 32 byte) (nat_lt byte 127) h).0, record {})
shown_line byte false h = (omega arith, (omega arith, hex_byte_line byte))

marked : (byte : ℕ) → ((byte == 34) || (byte == 92)) ≡ true → 32 ≤ byte
marked byte h = grind (arith, nat_tests)

escaped_by : (byte : ℕ) (t : Bool) → ((byte == 34) || (byte == 92)) ≡ t →
    IsLine (cond t (92 ∷ byte ∷ []) (cond (nat_le 32 byte && nat_lt byte 127) (byte ∷ []) (92 ∷ 120 ∷ hex_byte byte)))
escaped_by byte true h = (omega arith, (marked byte h, record {}))
escaped_by byte false h = shown_line byte _ refl

escaped_line : (byte : ℕ) → IsLine (escaped byte)
escaped_line byte = escaped_by byte _ refl

quoted_line : (p : List ℕ) → IsLine (quoted p)
quoted_line p = let inner = lines_mapped escaped escaped_line (without_nul p) in search joins

boolean_line : (p : List ℕ) → IsLine (boolean_text p)
boolean_line p = search (joins, is_line_checked)

-- ---- addresses

from_solid : (s : List ℕ) → Solid s → IsLine s
from_solid [] h = record {}
from_solid (c ∷ s) h = (omega (arith, h.0), from_solid s h.1)

ipv4_line : (o : List ℕ) → IsLine (ipv4_text o)
ipv4_line o = from_solid (ipv4_text o) (ipv4_solid o)

ipv6_line : (s : List ℕ) → IsLine (ipv6_text s)
ipv6_line s = from_solid (ipv6_text s) (ipv6_solid s)

address_line : (p : List ℕ) → IsLine (address_text p)
address_line p = search (joins, ipv4_line, ipv6_line, bytes_line)

-- ---- numbers and their names

abbrev are_lines : List Text → Bool
are_lines rs = list_all (λ r. is_line r.1) rs

text_line : (rs : List Text) (n : ℕ) → are_lines rs ≡ true → IsLine (text_in rs n)
text_line [] n h = record {}
text_line (r ∷ rs) n h =
    let parts = and_parts (is_line r.1) (are_lines rs) h in
    either_line (n == r.0) r.1 (text_in rs n) (is_line_checked r.1 parts.0) (text_line rs n parts.1)

bracketed_line : (name : List ℕ) → IsLine name → IsLine (bracketed name)
bracketed_line [] h = record {}
bracketed_line (c ∷ name) h = let inner = lines_joined (c ∷ name) (codes ")") h (is_line_checked (codes ")") refl) in search joins

named_line : (texts : List Text) (n : ℕ) → are_lines texts ≡ true → IsLine (named_number texts n)
named_line texts n h = lines_joined (decimal n) (bracketed (text_in texts n)) (decimal_line n) (bracketed_line (text_in texts n) (text_line texts n h))

named_signed_line : (texts : List Text) (size n : ℕ) → are_lines texts ≡ true → IsLine (named_signed texts size n)
named_signed_line texts size n h = lines_joined (signed_by (half_of size) n) (bracketed (text_in texts n)) (signed_line (half_of size) n) (bracketed_line (text_in texts n) (text_line texts n h))

-- Each of some names is on one line.
abbrev AllLines : List (List ℕ) → Type 0
AllLines names = AllByRecursion IsLine names

chosen_lines : (t : Bool) (a b : List (List ℕ)) → AllLines a → AllLines b → AllLines (cond t a b)
chosen_lines true a b h k = h
chosen_lines false a b h k = k

set_lines : (names : List Text) (n : ℕ) → are_lines names ≡ true → AllLines (names_set names n)
set_lines [] n h = record {}
set_lines (r ∷ rs) n h =
    let parts = and_parts (is_line r.1) (are_lines rs) h in
    let rest = set_lines rs n parts.1 in
    chosen_lines (bit_and n r.0 == 0) (names_set rs n) (r.1 ∷ names_set rs n) rest (is_line_checked r.1 parts.0, rest)

separated_line : (names : List (List ℕ)) → AllLines names → IsLine (separated names)
separated_line [] h = record {}
separated_line (name ∷ names) h = let more = separated_line names h.1 in search joins depth 7

nameless_line : (n : ℕ) → IsLine (nameless_text n)
nameless_line n = search (joins, hex_line, is_line_checked) depth 7

listed_line : (names : List (List ℕ)) (rest : ℕ) → AllLines names → IsLine (listed names rest)
listed_line [] rest h = record {}
listed_line (name ∷ names) rest h = let more = separated_line names h.1 in search (joins, nameless_line, is_line_checked) depth 9

flags_line : (names : List Text) (n : ℕ) → are_lines names ≡ true → IsLine (named_flags names n)
flags_line names n h = lines_joined (hex_number n) _ (hex_line n) (listed_line (names_set names n) (nameless names n) (set_lines names n h))

word_line : (names : List Text) (n : ℕ) → are_lines names ≡ true → IsLine (word_flags names n)
word_line names n h =
    lines_joined (hex_number n) _ (hex_line n)
    (either_line (n == 4294967295) (codes " (all)") _ (is_line_checked (codes " (all)") refl) (listed_line (names_set names n) (nameless names n) (set_lines names n h)))

nameless_flags_line : (is_word : Bool) (n : ℕ) → IsLine (nameless_flags is_word n)
nameless_flags_line is_word n = lines_joined (hex_number n) _ (hex_line n) (either_line (is_word && (n == 4294967295)) (codes " (all)") [] (is_line_checked (codes " (all)") refl) (record {}))

big_flags_line : (p : List ℕ) → IsLine (value_text S.BigEndianFlags p)
big_flags_line p = either_line _ (32 ∷ big_endian_flags p) (bytes_text p) (omega arith, nameless_flags_line (length p == 4) (big_endian p)) (bytes_line p)

flags_value_line : (names : List Text) (p : List ℕ) → are_lines names ≡ true → IsLine (named_flags_value names p)
flags_value_line names p h = search (joins, word_line, flags_line, bytes_line)

masked_line : (names : List Text) (p : List ℕ) → are_lines names ≡ true → IsLine (flags_and_mask_value names p)
masked_line names p h =
    let flags = word_flags names (number (take 4 p)) in
    let mask = word_flags names (number (drop 4 p)) in
    let after = lines_joined (codes " mask ") mask (is_line_checked (codes " mask ") refl) (word_line names (number (drop 4 p)) h) in
    either_line (length p == 8) (32 ∷ (flags ++ (codes " mask " ++ mask))) (bytes_text p)
    (omega arith, lines_joined flags (codes " mask " ++ mask) (word_line names (number (take 4 p)) h) after) (bytes_line p)

-- ---- records

handle_line : (texts : List Text) (n : ℕ) → are_lines texts ≡ true → IsLine (handle_text texts n)
handle_line texts n h =
    lines_joined (digits 16 false (n / 65536) ++ 58 ∷ digits 16 false (n % 65536)) (bracketed (text_in texts n))
    (lines_joined (digits 16 false (n / 65536)) (58 ∷ digits 16 false (n % 65536)) (digits_line _ (high 16 (n / 65536))) (omega arith, digits_line _ (high 16 (n % 65536))))
    (bracketed_line (text_in texts n) (text_line texts n h))

group_address_line : (n : ℕ) (p : List ℕ) → IsLine (group_address n p)
group_address_line n p = search (joins, ipv4_line, ipv6_line, colons_line, hex_text_line)

group_line : (texts : List Text) (p : List ℕ) → are_lines texts ≡ true → IsLine (group_text texts p)
group_line texts p h =
    let protocol = big_endian (drop 16 p) in
    lines_joined (group_address protocol (take 16 p)) (codes " proto " ++ named_number texts protocol) (group_address_line protocol (take 16 p))
    (lines_joined (codes " proto ") (named_number texts protocol) (is_line_checked (codes " proto ") refl) (named_line texts protocol h))

weight_line : (p : List ℕ) → IsLine (weight_text p)
weight_line [] = record {}
weight_line (hops ∷ []) =
    lines_joined (decimal hops) _ (decimal_line hops) (lines_joined (codes " (weight ") _ (is_line_checked (codes " (weight ") refl)
    (lines_joined (decimal (hops + 1)) (codes ")") (decimal_line (hops + 1)) (is_line_checked (codes ")") refl)))
weight_line (a ∷ b ∷ p) = hex_text_line (a ∷ b ∷ p)

field_value_line : (v : FieldShown) (p : List ℕ) → is_field_on_a_line v ≡ true → IsLine (field_value v p)
field_value_line F.Boolean p h = boolean_line p
field_value_line F.BigEndianFlags p h = either_line _ (big_endian_flags p) (hex_text p) (nameless_flags_line (length p == 4) (big_endian p)) (hex_text_line p)
field_value_line F.Weight p h = weight_line p
field_value_line F.Ipv6 p h = search (joins, ipv6_line, hex_text_line)
field_value_line F.Padding p h = hex_text_line p
field_value_line F.Text p h = let inner = lines_mapped escaped escaped_line (take (count_without_zeros p) p) in search joins
field_value_line (F.Handle texts) p h = search (joins, handle_line, hex_text_line)
field_value_line (F.Group texts) p h = search (joins, group_line, hex_text_line)
field_value_line F.Address p h = search colons_line
field_value_line F.Signed p h = search (joins, signed_line, hex_text_line)
field_value_line (F.Flags names) p h = search (joins, word_line, flags_line, hex_text_line)
field_value_line v p h = search (joins, named_line, hex_text_line)

field_line : (separator : ℕ) (f : Field) (p : List ℕ) → 32 ≤ separator → is_line f.0 ≡ true → is_field_on_a_line f.2 ≡ true → IsLine (field_text separator f p)
field_line separator f p l h k = (omega arith, lines_joined f.0 (separator ∷ field_value f.2 p) (is_line_checked f.0 h) (l, field_value_line f.2 p k))

fields_line : (separator : ℕ) (sparse : Bool) (fs : List Field) (p : List ℕ) → 32 ≤ separator → are_fields_on_a_line fs ≡ true → IsLine (fields_text separator sparse fs p)
fields_line separator sparse [] p l h = record {}
fields_line separator sparse (f ∷ fs) p l h =
    let parts = and_parts (is_line f.0 && is_field_on_a_line f.2) (are_fields_on_a_line fs) h in
    let names = and_parts (is_line f.0) (is_field_on_a_line f.2) parts.0 in
    let first = field_text separator f (take f.1 p) in
    let test = is_hidden sparse f.2 (take f.1 p) in
    lines_joined (cond test [] first) (fields_text separator sparse fs (drop f.1 p))
    (either_line test [] first (record {}) (field_line separator f (take f.1 p) l names.0 names.1)) (fields_line separator sparse fs (drop f.1 p) l parts.1)

record_line : (sparse : Bool) (fs : List Field) (p : List ℕ) → are_fields_on_a_line fs ≡ true → IsLine (record_text sparse fs p)
unfolding record_text
record_line sparse fs p h =
    let n = total_size fs in
    either_line (nat_le n (length p) && is_zero (drop n p)) (fields_text 61 sparse fs (take n p)) (bytes_text p) (fields_line 61 sparse fs (take n p) (omega arith) h) (bytes_line p)

-- ---- values

optional_line : (p : List ℕ) → IsLine (value_text S.OptionalByte p)
optional_line [] = record {}
optional_line (byte ∷ []) = (omega arith, decimal_line byte)
optional_line (a ∷ b ∷ p) = bytes_line (a ∷ b ∷ p)

ruleset lines = (joins, decimal_line, hex_line, named_signed_line, named_line, flags_value_line, masked_line, bytes_line, hardware_line, address_line, record_line, boolean_line, quoted_line)

line : (shown : Shown) (p : List ℕ) → is_shown_on_a_line shown ≡ true → IsLine (value_text shown p)
line S.Presence p h = record {}
line S.OptionalByte p h = optional_line p
line S.Flags p h = flags_value_line [] p refl
line S.BigEndianFlags p h = big_flags_line p
line shown p h = search lines depth 12

-- ---- a space at the start

pub either_space : (test : Bool) (s t : List ℕ) → BeginsWithSpace s → BeginsWithSpace t → BeginsWithSpace (cond test s t)
either_space true s t h k = h
either_space false s t h k = k

spaces_joined : (s t : List ℕ) → BeginsWithSpace s → BeginsWithSpace t → BeginsWithSpace (s ++ t)
spaces_joined [] t h k = k
spaces_joined (c ∷ s) t h k = h

bytes_space : (p : List ℕ) → BeginsWithSpace (bytes_text p)
bytes_space [] = record {}
bytes_space (byte ∷ p) = refl

hardware_space : (p : List ℕ) → BeginsWithSpace (hardware_text p)
hardware_space [] = record {}
hardware_space (byte ∷ p) = refl

optional_space : (p : List ℕ) → BeginsWithSpace (value_text S.OptionalByte p)
optional_space [] = record {}
optional_space (byte ∷ []) = refl
optional_space (a ∷ b ∷ p) = refl

fields_space : (separator : ℕ) (sparse : Bool) (fs : List Field) (p : List ℕ) → BeginsWithSpace (fields_text separator sparse fs p)
fields_space separator sparse [] p = record {}
fields_space separator sparse (f ∷ fs) p =
    let first = field_text separator f (take f.1 p) in
    let test = is_hidden sparse f.2 (take f.1 p) in
    spaces_joined (cond test [] first) (fields_text separator sparse fs (drop f.1 p))
    (either_space test [] first (record {}) refl) (fields_space separator sparse fs (drop f.1 p))

record_space : (sparse : Bool) (fs : List Field) (p : List ℕ) → BeginsWithSpace (record_text sparse fs p)
unfolding record_text
record_space sparse fs p =
    let n = total_size fs in
    either_space (nat_le n (length p) && is_zero (drop n p)) (fields_text 61 sparse fs (take n p)) (bytes_text p)
    (fields_space 61 sparse fs (take n p)) (bytes_space p)

ruleset spaces = (either_space, bytes_space, hardware_space, record_space)

space : (shown : Shown) (p : List ℕ) → BeginsWithSpace (value_text shown p)
space S.OptionalByte p = optional_space p
space shown p = search spaces

pub values_are_lines : ValuesAreOnALine
values_are_lines = record { line = line; space = space }

pub fields_are_lines : FieldsAreOnALine
fields_are_lines = record { line = fields_line; space = fields_space }

-- ---- counters

title_line : (fs : List Field) (n k : ℕ) → are_fields_on_a_line fs ≡ true → IsLine (title_or fs n k)
title_line [] n k h = decimal_line n
title_line (f ∷ fs) n zero h = is_line_checked f.0 (and_parts (is_line f.0) (is_field_on_a_line f.2) (and_parts (is_line f.0 && is_field_on_a_line f.2) (are_fields_on_a_line fs) h).0).0
title_line (f ∷ fs) n (suc k) h = title_line fs n k (and_parts (is_line f.0 && is_field_on_a_line f.2) (are_fields_on_a_line fs) h).1

slots_line : (size : ℕ) (v : FieldShown) (fs : List Field) (i k : ℕ) (p : List ℕ) → is_field_on_a_line v ≡ true → are_fields_on_a_line fs ≡ true → IsLine (slots_text size v fs i k p)
slots_line size v fs i zero p h l = record {}
slots_line size v fs i (suc k) p h l =
    let part = take size p in
    let value : IsLine (61 ∷ field_value v part) = (omega arith, field_value_line v part h) in
    let text : IsLine (32 ∷ (counter_name fs i ++ 61 ∷ field_value v part)) = (omega arith, lines_joined (counter_name fs i) (61 ∷ field_value v part) (title_line fs i i l) value) in
    lines_joined (cond (is_zero part) [] (32 ∷ (counter_name fs i ++ 61 ∷ field_value v part))) (slots_text size v fs (suc i) k (drop size p))
    (either_line (is_zero part) [] (32 ∷ (counter_name fs i ++ 61 ∷ field_value v part)) (record {}) text) (slots_line size v fs (suc i) k (drop size p) h l)

counters_line : (fs : List Field) (p : List ℕ) → are_fields_on_a_line fs ≡ true → IsLine (counters_text fs p)
counters_line [] p h = record {}
counters_line (f ∷ fs) p h =
    let shown = (and_parts (is_line f.0) (is_field_on_a_line f.2) (and_parts (is_line f.0 && is_field_on_a_line f.2) (are_fields_on_a_line fs) h).0).1 in
    let count = length p / f.1 in
    lines_joined (codes " fields ") (decimal count ++ slots_text f.1 f.2 (f ∷ fs) 0 count p) (is_line_checked (codes " fields ") refl)
    (lines_joined (decimal count) (slots_text f.1 f.2 (f ∷ fs) 0 count p) (decimal_line count) (slots_line f.1 f.2 (f ∷ fs) 0 count p shown h))

counters_space : (fs : List Field) (p : List ℕ) → BeginsWithSpace (counters_text fs p)
counters_space [] p = record {}
counters_space (f ∷ fs) p = refl

nonzero_line : (fs : List Field) (p : List ℕ) → are_fields_on_a_line fs ≡ true → IsLine (nonzero_text fs p)
nonzero_line [] p h = record {}
nonzero_line (f ∷ fs) p h =
    let shown = (and_parts (is_line f.0) (is_field_on_a_line f.2) (and_parts (is_line f.0 && is_field_on_a_line f.2) (are_fields_on_a_line fs) h).0).1 in
    slots_line f.1 f.2 (f ∷ fs) 0 (length p / f.1) p shown h

pub slots_space : (size : ℕ) (v : FieldShown) (fs : List Field) (i k : ℕ) (p : List ℕ) → BeginsWithSpace (slots_text size v fs i k p)
slots_space size v fs i zero p = record {}
slots_space size v fs i (suc k) p =
    let text = 32 ∷ (counter_name fs i ++ 61 ∷ field_value v (take size p)) in
    spaces_joined (cond (is_zero (take size p)) [] text) (slots_text size v fs (suc i) k (drop size p))
    (either_space (is_zero (take size p)) [] text (record {}) refl) (slots_space size v fs (suc i) k (drop size p))

nonzero_space : (fs : List Field) (p : List ℕ) → BeginsWithSpace (nonzero_text fs p)
nonzero_space [] p = record {}
nonzero_space (f ∷ fs) p = slots_space f.1 f.2 (f ∷ fs) 0 (length p / f.1) p

pub counters_are_lines : CountersAreOnALine
counters_are_lines = record { line = counters_line; space = counters_space; nonzero_line = nonzero_line; nonzero_space = nonzero_space }
