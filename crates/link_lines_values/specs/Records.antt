-- Records: fields of known sizes, one after the other.
use Rattle.std.specs.Prelude.{ℕ, zero, suc, ◌+◌, ◌/◌, ◌%◌, ◌==◌, ◌&&◌, ◌||◌, not, nat_le, Bool, true}
use Rattle.std.specs.Prelude.{false, List, [], ◌∷◌, ◌++◌, Option, None, Some, bytes_eq, codes, cond, length, take, drop}
use Rattle.std.specs.Fmt.{decimal, digits}
use Rattle.std.specs.Net.Addr.{segments_of}
use Rattle.std.specs.Net.Text.{ipv4_text, ipv6_text}
use Rattle.std.specs.Str.Parse.{digits_value}
use Rattle.attribute_tables_grammar.specs.Shapes.{number}
use Rattle.link_lines_values.specs.declared.fields.FieldOf.{FieldOf}
use Rattle.link_lines_values.specs.declared.fields.FieldShownBy.{FieldShownBy}
use Rattle.link_lines_values.specs.declared.fields.FieldShownBy.TheVariants as S
use Rattle.link_lines_values.specs.declared.number_tables.Numbers.{Numbers}
use Rattle.link_lines_values.specs.Digits.{big_endian, half_of, is_number, is_signed_size, signed_by}
use Rattle.link_lines_values.specs.Bytes.{boolean_text, bytes_text, colons, hex_text, is_zero}
use Rattle.link_lines_values.specs.Bytes.{padded_address, padded_text}
use Rattle.link_lines_values.specs.Flags.{big_endian_flags, flags_text}
use Rattle.link_lines_values.specs.Names.{Text, bracketed, named_number, text_in}
use Rattle.link_lines_values.specs.NumberTexts.{number_texts}

-- How a field of a record is shown.
abbrev pub FieldShown : Type 0
FieldShown = FieldShownBy (List Text)

-- A field of a record: its name, its size in bytes, and how it is shown.
abbrev pub Field : Type 0
Field = FieldOf (List ℕ) (List Text)

-- How a field is shown that a value in code represents.
abbrev pub shown_of : FieldShownBy Numbers → FieldShown
shown_of (S.Number texts) = S.Number (number_texts texts)
shown_of S.Signed = S.Signed
shown_of (S.BigEndian texts) = S.BigEndian (number_texts texts)
shown_of (S.Flags names) = S.Flags (number_texts names)
shown_of S.BigEndianFlags = S.BigEndianFlags
shown_of S.Weight = S.Weight
shown_of S.Address = S.Address
shown_of S.Boolean = S.Boolean
shown_of (S.Handle texts) = S.Handle (number_texts texts)
shown_of S.Text = S.Text
shown_of (S.Group texts) = S.Group (number_texts texts)
shown_of S.Ipv6 = S.Ipv6
shown_of S.Padding = S.Padding

-- The field that a value in code represents.
abbrev pub field_of : {N : Type 0} → (N → List ℕ) → FieldOf N Numbers → Field
field_of f r = (f r.0, r.1, shown_of r.2)

-- The fields that a constant in code represents.
abbrev pub fields_of : {N : Type 0} → (N → List ℕ) → List (FieldOf N Numbers) → List Field
fields_of f [] = []
fields_of f (r ∷ rs) = field_of f r ∷ fields_of f rs

-- The sum of the fields' sizes in bytes.
abbrev pub total_size : List Field → ℕ
total_size [] = 0
total_size (f ∷ fs) = f.1 + total_size fs

-- A number with its name; bytes in hex if there is no number.
abbrev pub number_or_hex : List Text → Option ℕ → List ℕ → List ℕ
number_or_hex texts (Some n) part = named_number texts n
number_or_hex texts None part = hex_text part

-- A handle of 4 bytes with its name, as in `8001:0` or `ffff:ffff (root)`: its upper and its lower 16 bits in hex.
abbrev pub handle_text : List Text → ℕ → List ℕ
handle_text texts n =
    (digits 16 false (n / 65536) ++ 58 ∷ digits 16 false (n % 65536)) ++ bracketed (text_in texts n)

-- A handle with its name; bytes in hex if there is none.
abbrev pub handle_or_hex : List Text → Option ℕ → List ℕ → List ℕ
handle_or_hex texts (Some n) part = cond (length part == 4) (handle_text texts n) (hex_text part)
handle_or_hex texts None part = hex_text part

-- An address of 16 bytes by its protocol: IPv4 under 2048 and IPv6 under 34525; under 0 six bytes with colons; else all
-- bytes in hex, also if bytes after a shorter address aren't zero.
abbrev pub group_address : ℕ → List ℕ → List ℕ
group_address protocol bytes =
    cond ((protocol == 2048) && is_zero (drop 4 bytes)) (ipv4_text (take 4 bytes))
    (cond (protocol == 34525) (ipv6_text (segments_of bytes))
    (cond ((protocol == 0) && is_zero (drop 6 bytes)) (colons (take 6 bytes)) (hex_text bytes)))

-- An address of 16 bytes and its big-endian protocol, as in `239.1.1.1 proto 2048 (ip)`.
abbrev pub group_text : List Text → List ℕ → List ℕ
group_text texts part =
    group_address (big_endian (drop 16 part)) (take 16 part) ++
    (codes " proto " ++ named_number texts (big_endian (drop 16 part)))

-- A byte, and the weight of a next hop that has it as its number of hops, as in `0 (weight 1)`; other sizes in hex.
abbrev pub weight_text : List ℕ → List ℕ
weight_text (hops ∷ []) = decimal hops ++ (codes " (weight " ++ (decimal (hops + 1) ++ codes ")"))
weight_text part = hex_text part

-- The value of a field; a number of a size that no number has would be shown as its bytes.
abbrev pub field_value : FieldShown → List ℕ → List ℕ
field_value (S.Number texts) part = cond (is_number part) (named_number texts (number part)) (hex_text part)
field_value S.Signed part =
    cond (is_signed_size (length part)) (signed_by (half_of (length part)) (number part)) (hex_text part)
field_value (S.BigEndian texts) part = cond (is_number part) (named_number texts (big_endian part)) (hex_text part)
field_value (S.Flags names) part = cond (is_number part) (flags_text names part) (hex_text part)
field_value S.BigEndianFlags part = cond (is_number part) (big_endian_flags part) (hex_text part)
field_value S.Weight part = weight_text part
field_value S.Address part = padded_address part
field_value S.Boolean part = boolean_text part
field_value (S.Handle texts) part = cond (length part == 4) (handle_text texts (number part)) (hex_text part)
field_value S.Text part = padded_text part
field_value (S.Group texts) part = cond (length part == 18) (group_text texts part) (hex_text part)
field_value S.Ipv6 part = cond (length part == 16) (ipv6_text (segments_of part)) (hex_text part)
field_value S.Padding part = hex_text part

-- Whether a field is padding.
abbrev pub is_padding : FieldShown → Bool
is_padding S.Padding = true
is_padding shown = false

-- A field as in ` vlan=7`, with a separator between its name and its value.
abbrev pub field_text : ℕ → Field → List ℕ → List ℕ
field_text separator f part = 32 ∷ (f.0 ++ separator ∷ field_value f.2 part)

-- Whether a field isn't shown: padding that is zero, and in a sparse record any field that is zero.
abbrev pub is_hidden : Bool → FieldShown → List ℕ → Bool
is_hidden is_sparse shown part = (is_sparse || is_padding shown) && is_zero part

-- The fields that are shown, each with a separator between its name and its value.
abbrev pub fields_text : ℕ → Bool → List Field → List ℕ → List ℕ
fields_text separator is_sparse [] bytes = []
fields_text separator is_sparse (f ∷ fs) bytes =
    cond (is_hidden is_sparse f.2 (take f.1 bytes)) [] (field_text separator f (take f.1 bytes)) ++
    fields_text separator is_sparse fs (drop f.1 bytes)

-- Whether bytes are a record: they have the size of its fields.
abbrev pub is_record : List Field → List ℕ → Bool
is_record fs bytes = length bytes == total_size fs

-- The text of a record, which only zeros may follow; any other bytes are shown in hex.
unfoldable pub record_text : Bool → List Field → List ℕ → List ℕ
record_text is_sparse fs bytes =
    cond (nat_le (total_size fs) (length bytes) &&
    is_zero (drop (total_size fs) bytes)) (fields_text 61 is_sparse fs (take (total_size fs) bytes)) (bytes_text bytes)

-- ---- counters: numbers of one size, each with the title of its field

-- A title, or the number n if there are no more than k fields.
abbrev pub title_or : List Field → ℕ → ℕ → List ℕ
title_or [] n k = decimal n
title_or (f ∷ fs) n zero = f.0
title_or (f ∷ fs) n (suc k) = title_or fs n k

-- The name of the counter at an index: the title of its field, or the index if there is none.
abbrev pub counter_name : List Field → ℕ → List ℕ
counter_name fs i = title_or fs i i

-- The first k counters of a size that aren't zero, from index i on.
abbrev pub slots_text : ℕ → FieldShown → List Field → ℕ → ℕ → List ℕ → List ℕ
slots_text size shown fs i zero bytes = []
slots_text size shown fs i (suc k) bytes =
    cond (is_zero (take size bytes)) [] (field_text 61 (counter_name fs i, size, shown) (take size bytes)) ++
    slots_text size shown fs (suc i) k (drop size bytes)

-- Whether bytes are counters: a multiple of the size of the first field.
abbrev pub is_counters : List Field → List ℕ → Bool
is_counters [] bytes = false
is_counters (f ∷ fs) bytes = not (f.1 == 0) && (length bytes % f.1 == 0)

-- Counters as in ` fields 25 rx_packets=3`: how many there are, and those that aren't zero, all shown as the first
-- field.
abbrev pub counters_text : List Field → List ℕ → List ℕ
counters_text [] bytes = []
counters_text (f ∷ fs) bytes =
    codes " fields " ++
    (decimal (length bytes / f.1) ++ slots_text f.1 f.2 (f ∷ fs) 0 (length bytes / f.1) bytes)

-- The counters that aren't zero, without how many there are.
abbrev pub nonzero_text : List Field → List ℕ → List ℕ
nonzero_text [] bytes = []
nonzero_text (f ∷ fs) bytes = slots_text f.1 f.2 (f ∷ fs) 0 (length bytes / f.1) bytes

-- ---- whether the text of a record determines it

-- The sizes that numbers have.
abbrev pub is_size : ℕ → Bool
is_size n = (n == 1) || ((n == 2) || ((n == 3) || ((n == 4) || (n == 8))))

-- Whether the size of a field is one that its format knows.
abbrev pub has_size : FieldShown → ℕ → Bool
has_size (S.Number texts) n = is_size n
has_size S.Signed n = is_signed_size n
has_size (S.BigEndian texts) n = is_size n
has_size (S.Flags names) n = is_size n
has_size S.BigEndianFlags n = is_size n
has_size S.Weight n = n == 1
has_size S.Address n = true
has_size S.Boolean n = true
has_size (S.Handle texts) n = n == 4
has_size S.Text n = true
has_size (S.Group texts) n = n == 18
has_size S.Ipv6 n = n == 16
has_size S.Padding n = true

-- Whether the sizes of all fields are ones that their formats know.
abbrev pub sizes_known : List Field → Bool
sizes_known [] = true
sizes_known (f ∷ fs) = has_size f.2 f.1 && sizes_known fs

-- Whether a text lacks a byte.
abbrev pub lacks_byte : ℕ → List ℕ → Bool
lacks_byte b [] = true
lacks_byte b (c ∷ s) = not (c == b) && lacks_byte b s

-- Whether no field has this name.
abbrev pub lacks : List ℕ → List Field → Bool
lacks n [] = true
lacks n (f ∷ fs) = not (bytes_eq f.0 n) && lacks n fs

-- Whether no two fields have one name, and no name has the byte that separates it from its value.
abbrev pub names_apart : ℕ → List Field → Bool
names_apart separator [] = true
names_apart separator (f ∷ fs) = lacks_byte separator f.0 && (lacks f.0 fs && names_apart separator fs)

-- Whether the text of a record with these fields, with this byte between names and values, determines it.
abbrev pub fields_determine : ℕ → List Field → Bool
fields_determine separator fs = sizes_known fs && names_apart separator fs

-- Whether a field isn't shown as a boolean.
abbrev pub is_no_boolean : FieldShown → Bool
is_no_boolean S.Boolean = false
is_no_boolean shown = true

-- Whether no field of a record is shown as a boolean.
abbrev pub has_no_booleans : List Field → Bool
has_no_booleans [] = true
has_no_booleans (f ∷ fs) = is_no_boolean f.2 && has_no_booleans fs

-- ---- whether the text of counters determines them

-- Whether counters are shown in this format, and have a size that it knows.
abbrev pub is_counter : FieldShown → ℕ → Bool
is_counter (S.Number texts) n = is_size n
is_counter S.Signed n = is_signed_size n
is_counter shown n = false

-- Whether a text begins with a digit.
abbrev pub begins_with_digit : List ℕ → Bool
begins_with_digit [] = false
begins_with_digit (c ∷ s) = nat_le 48 c && nat_le c 57

-- Whether each title that begins with a digit is its own index, the first one's being i.
abbrev pub has_own_indexes : ℕ → List Field → Bool
has_own_indexes i [] = true
has_own_indexes i (f ∷ fs) =
    (not (begins_with_digit f.0) || (digits_value 10 f.0 == i)) && has_own_indexes (suc i) fs

-- Whether the text of counters with these fields determines them.
abbrev pub counters_determine : List Field → Bool
counters_determine [] = false
counters_determine (f ∷ fs) = is_counter f.2 f.1 && (names_apart 61 (f ∷ fs) && has_own_indexes 0 (f ∷ fs))
