-- Payloads of attributes as text, with the space before it if there is any.
use Rattle.std.specs.Prelude.{ℕ, ◌==◌, ◌&&◌, ◌||◌, nat_le, Bool, true, false, List, [], ◌∷◌, ◌++◌, codes, cond, length}
use Rattle.std.specs.Prelude.{take, drop}
use Rattle.std.specs.Fmt.{decimal}
use Rattle.std.specs.List.{list_all}
use Rattle.attribute_tables_grammar.specs.Shapes.{number}
use Rattle.link_lines_values.specs.declared.fields.Layout.{Layout}
use Rattle.link_lines_values.specs.declared.fields.FieldShownBy.TheVariants as F
use Rattle.link_lines_values.specs.declared.number_tables.Numbers.{Numbers}
use Rattle.link_lines_values.specs.declared.values.ShownBy.{ShownBy}
use Rattle.link_lines_values.specs.declared.values.ShownBy.TheVariants as S
use Rattle.link_lines_values.specs.Digits.{big_endian, is_number, is_signed_size}
use Rattle.link_lines_values.specs.Bytes.{address_text, bytes_text, hardware_text, quoted, boolean_text}
use Rattle.link_lines_values.specs.Flags.{big_endian_flags, flags_text, word_flags}
use Rattle.link_lines_values.specs.Names.{Text, named_number, named_signed}
use Rattle.link_lines_values.specs.Layouts.{layout_fields}
use Rattle.link_lines_values.specs.NumberTexts.{number_texts}
use Rattle.link_lines_values.specs.Records.{Field, FieldShown, is_size, record_text}

-- How a payload is shown: numbers with their names, flags with the names of their bits, records with their fields.
abbrev pub Shown : Type 0
Shown = ShownBy (List Text) (List Field)

-- The format that a value in code represents.
abbrev pub format_of : ShownBy Numbers Layout → Shown
format_of (S.Number texts) = S.Number (number_texts texts)
format_of (S.BigEndian texts) = S.BigEndian (number_texts texts)
format_of (S.Signed texts) = S.Signed (number_texts texts)
format_of S.Flags = S.Flags
format_of (S.NamedFlags names) = S.NamedFlags (number_texts names)
format_of S.BigEndianFlags = S.BigEndianFlags
format_of S.Boolean = S.Boolean
format_of S.Presence = S.Presence
format_of S.OptionalByte = S.OptionalByte
format_of S.Text = S.Text
format_of S.Bytes = S.Bytes
format_of S.HardwareAddress = S.HardwareAddress
format_of S.Address = S.Address
format_of S.PortRange = S.PortRange
format_of (S.FlagsAndMask names) = S.FlagsAndMask (number_texts names)
format_of (S.Record layout) = S.Record (layout_fields layout)
format_of (S.SparseRecord layout) = S.SparseRecord (layout_fields layout)

-- A little-endian number of 1, 2, 3, 4 or 8 bytes with its name; other sizes as bytes.
abbrev pub number_value : List Text → List ℕ → List ℕ
number_value texts p = cond (is_number p) (32 ∷ named_number texts (number p)) (bytes_text p)

-- A big-endian number of 1, 2, 3, 4 or 8 bytes with its name; other sizes as bytes.
abbrev pub big_endian_value : List Text → List ℕ → List ℕ
big_endian_value texts p = cond (is_number p) (32 ∷ named_number texts (big_endian p)) (bytes_text p)

-- A signed number of 1, 2, 4 or 8 bytes with its name; other sizes as bytes.
abbrev pub signed_value : List Text → List ℕ → List ℕ
signed_value texts p =
    cond (is_signed_size (length p)) (32 ∷ named_signed texts (length p) (number p)) (bytes_text p)

-- A set of little-endian flags of 1, 2, 3, 4 or 8 bytes with the names of their bits; other sizes as bytes.
abbrev pub named_flags_value : List Text → List ℕ → List ℕ
named_flags_value names p = cond (is_number p) (32 ∷ flags_text names p) (bytes_text p)

-- A set of little-endian flags of 1, 2, 3, 4 or 8 bytes, without names.
abbrev pub flags_value : List ℕ → List ℕ
flags_value p = named_flags_value [] p

-- A set of big-endian flags of 1, 2, 3, 4 or 8 bytes, without names.
abbrev pub big_endian_flags_value : List ℕ → List ℕ
big_endian_flags_value p = cond (is_number p) (32 ∷ big_endian_flags p) (bytes_text p)

-- A byte in decimal, or nothing.
abbrev pub optional_byte_value : List ℕ → List ℕ
optional_byte_value [] = []
optional_byte_value (byte ∷ []) = 32 ∷ decimal byte
optional_byte_value (a ∷ b ∷ p) = bytes_text (a ∷ b ∷ p)

-- Two big-endian numbers of 2 bytes.
abbrev pub port_range_value : List ℕ → List ℕ
port_range_value p =
    cond (length p == 4) (32 ∷ (decimal (big_endian (take 2 p)) ++ 32 ∷ decimal (big_endian (drop 2 p)))) (bytes_text p)

-- Flags of 4 bytes and a mask of 4 bytes with the names of their bits, as in `0x1 (REORDER_HDR) mask 0x3`.
abbrev pub flags_and_mask_value : List Text → List ℕ → List ℕ
flags_and_mask_value names p =
    cond (length p == 8) (32 ∷
    (word_flags names (number (take 4 p)) ++ (codes " mask " ++ word_flags names (number (drop 4 p))))) (bytes_text p)

-- A payload as text, by its format.
abbrev pub value_text : Shown → List ℕ → List ℕ
value_text (S.Number texts) p = number_value texts p
value_text (S.BigEndian texts) p = big_endian_value texts p
value_text (S.Signed texts) p = signed_value texts p
value_text S.Flags p = flags_value p
value_text (S.NamedFlags names) p = named_flags_value names p
value_text S.BigEndianFlags p = big_endian_flags_value p
value_text S.Boolean p = 32 ∷ boolean_text p
value_text S.Presence p = []
value_text S.OptionalByte p = optional_byte_value p
value_text S.Text p = 32 ∷ quoted p
value_text S.Bytes p = bytes_text p
value_text S.HardwareAddress p = hardware_text p
value_text S.Address p = address_text p
value_text S.PortRange p = port_range_value p
value_text (S.FlagsAndMask names) p = flags_and_mask_value names p
value_text (S.Record fields) p = record_text false fields p
value_text (S.SparseRecord fields) p = record_text true fields p

-- ---- whether a value is on one line: none of the names has a byte under 32

-- Whether a text has no byte under 32.
abbrev pub is_line : List ℕ → Bool
is_line s = list_all (nat_le 32) s

-- Whether all names that a field may show beside its value are on one line.
abbrev pub is_field_on_a_line : FieldShown → Bool
is_field_on_a_line (F.Number texts) = list_all (λ t. is_line t.1) texts
is_field_on_a_line (F.BigEndian texts) = list_all (λ t. is_line t.1) texts
is_field_on_a_line (F.Flags names) = list_all (λ t. is_line t.1) names
is_field_on_a_line (F.Handle texts) = list_all (λ t. is_line t.1) texts
is_field_on_a_line (F.Group texts) = list_all (λ t. is_line t.1) texts
is_field_on_a_line shown = true

-- Whether all names that fields may show are on one line, those of the fields too.
abbrev pub are_fields_on_a_line : List Field → Bool
are_fields_on_a_line fs = list_all (λ f. is_line f.0 && is_field_on_a_line f.2) fs

-- Whether all names that a format may show are on one line.
abbrev pub is_shown_on_a_line : Shown → Bool
is_shown_on_a_line (S.Number texts) = list_all (λ t. is_line t.1) texts
is_shown_on_a_line (S.BigEndian texts) = list_all (λ t. is_line t.1) texts
is_shown_on_a_line (S.Signed texts) = list_all (λ t. is_line t.1) texts
is_shown_on_a_line (S.NamedFlags names) = list_all (λ t. is_line t.1) names
is_shown_on_a_line (S.FlagsAndMask names) = list_all (λ t. is_line t.1) names
is_shown_on_a_line (S.Record fields) = are_fields_on_a_line fields
is_shown_on_a_line (S.SparseRecord fields) = are_fields_on_a_line fields
is_shown_on_a_line shown = true

-- ---- whether a value determines payloads of one size

-- Whether a format determines the payloads of n bytes.
abbrev pub determines_sized : ℕ → Shown → Bool
determines_sized n (S.Number texts) = is_size n
determines_sized n (S.BigEndian texts) = is_size n
determines_sized n (S.Signed texts) = is_signed_size n
determines_sized n S.Flags = is_size n
determines_sized n (S.NamedFlags names) = is_size n
determines_sized n S.BigEndianFlags = is_size n
determines_sized n S.Presence = n == 0
determines_sized n S.HardwareAddress = true
determines_sized n S.Address = (n == 4) || (n == 16)
determines_sized n S.PortRange = n == 4
determines_sized n (S.FlagsAndMask names) = n == 8
determines_sized n shown = false
