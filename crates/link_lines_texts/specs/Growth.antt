-- How long lines are at most, by a test of each format, record and row that is computed.
use Rattle.std.specs.Prelude.{ℕ, ◌+◌, ◌-◌, ◌*◌, ◌&&◌, nat_le, max, Bool, true, List, [], ◌∷◌, length}
use Rattle.std.specs.List.{list_all}
use Rattle.link_lines_parts.specs.Levels.{deepest_level}
use Rattle.link_lines_values.specs.declared.exact.ExactBy.TheVariants as E
use Rattle.link_lines_values.specs.declared.fields.FieldShownBy.TheVariants as F
use Rattle.link_lines_values.specs.declared.values.ShownBy.TheVariants as S
use Rattle.link_lines_values.specs.Exact.{Exact}
use Rattle.link_lines_values.specs.Names.{Text}
use Rattle.link_lines_values.specs.Records.{Field, FieldShown, total_size}
use Rattle.link_lines_values.specs.Values.{Shown}
use Rattle.link_lines_raw.specs.declared.rows.RawBy.TheVariants as R
use Rattle.link_lines_raw.specs.Choices.{choices_of}
use Rattle.link_lines_raw.specs.Names.{Named}
use Rattle.link_lines_raw.specs.Rows.{Raw, RecordLine}
use Rattle.link_lines_texts.specs.AttributeNames.{Name}
use Rattle.link_lines_texts.specs.Format.{Inside, Inside.Value, Inside.Settings, Inside.Held}

-- The bytes of lines for each byte of the text that they show, at most.
abbrev pub factor : ℕ
factor = 46

-- The bytes of a line beside its text, at most: the indentation of the deepest level, and the newline.
abbrev pub margin : ℕ
margin = 2 * deepest_level + 1

-- The bytes of a line of padding beside the padding's own, at most: the indentation, one level deeper than that of the
-- deepest attribute, the word `padding` and the newline.
abbrev pub padding_margin : ℕ
padding_margin = 2 * (deepest_level + 1) + 8

-- The bytes of an attribute's line that the 4 bytes of the attribute's header allow, without those beside the line's text.
abbrev pub allowance : ℕ
allowance = 4 * factor - margin

-- ---- names of numbers and of flags

-- The length of the longest name.
abbrev pub longest : List Text → ℕ
longest [] = 0
longest (r ∷ rs) = max (length r.1) (longest rs)

-- The length of all names with three bytes between them.
abbrev pub joined_size : List Text → ℕ
joined_size [] = 0
joined_size (r ∷ rs) = 3 + length r.1 + joined_size rs

-- ---- records

-- The length of a field's value, of this size in bytes, at most.
abbrev pub field_most : FieldShown → ℕ → ℕ
field_most (F.Number texts) size = 3 * size + 3 + longest texts
field_most F.Signed size = 2 * size + 13
field_most (F.BigEndian texts) size = 3 * size + 3 + longest texts
field_most (F.Flags names) size = 4 * size + 8 + joined_size names
field_most F.BigEndianFlags size = 2 * size + 8
field_most F.Weight size = 2 * size + 17
field_most F.Address size = 3 * size
field_most F.Boolean size = 3
field_most (F.Handle texts) size = 2 * size + 12 + longest texts
field_most F.Text size = 4 * size + 2
field_most (F.Group texts) size = 2 * size + 64 + longest texts
field_most F.Ipv6 size = 2 * size + 46
field_most F.Padding size = 2 * size

-- The length of the text of fields, at most.
abbrev pub fields_most : List Field → ℕ
fields_most [] = 0
fields_most (f ∷ fs) = 2 + length f.0 + field_most f.2 f.1 + fields_most fs

-- The length of the longest name of a field.
abbrev pub longest_title : List Field → ℕ
longest_title [] = 0
longest_title (f ∷ fs) = max (length f.0) (longest_title fs)

-- Whether the line of a record is short enough.
abbrev pub is_short_line : RecordLine → Bool
is_short_line line = nat_le (margin + length line.0 + fields_most line.1) (factor * total_size line.1)

-- Whether it is at level 1: two spaces, and the newline.
abbrev pub is_short_first_line : RecordLine → Bool
is_short_first_line line = nat_le (3 + length line.0 + fields_most line.1) (factor * total_size line.1)

-- ---- values, after a name and a word of `extra` bytes

-- Whether a value is short enough, in a format that shows numbers and flags of `least` bytes or more.
abbrev pub is_short_value : ℕ → ℕ → Shown → Bool
is_short_value extra least (S.Number texts) = nat_le (extra + 4 + longest texts) allowance
is_short_value extra least (S.BigEndian texts) = nat_le (extra + 4 + longest texts) allowance
is_short_value extra least (S.Signed texts) = nat_le (extra + 17 + longest texts) allowance
is_short_value extra least (S.NamedFlags names) = nat_le (extra + 9 + joined_size names) (allowance + (factor - 4) * least)
is_short_value extra least (S.FlagsAndMask names) = nat_le (extra + 55 + 2 * joined_size names) (allowance + factor * 8)
is_short_value extra least (S.Record fields) = nat_le (extra + fields_most fields) (allowance + factor * total_size fields)
is_short_value extra least (S.SparseRecord fields) =
    nat_le (extra + fields_most fields) (allowance + factor * total_size fields)
is_short_value extra least shown = true

-- Whether each of some counters is short enough: their number, and their size in bytes is that of the first field.
abbrev pub are_short_counters : List Field → Bool
are_short_counters [] = true
are_short_counters (f ∷ fs) =
    nat_le 1 f.1 && nat_le (2 + max 20 (longest_title (f ∷ fs)) + field_most f.2 f.1) (factor * f.1)

-- Whether the payload of a raw attribute is short enough on its line.
abbrev pub is_short_exact : ℕ → Exact → Bool
is_short_exact extra (E.Sized n shown) = is_short_value extra n shown
is_short_exact extra (E.Record fields) = nat_le (extra + fields_most fields) (allowance + factor * total_size fields)
is_short_exact extra (E.Counters fields) = are_short_counters fields
is_short_exact extra x = true

-- Whether the line of an attribute leaves space for the other values: the word `bytes`, the longest address and a space.
abbrev pub leaves_space : ℕ → Bool
leaves_space extra = nat_le (extra + 46) allowance

-- Whether what a raw attribute holds is short enough, if no other attribute chooses it.
abbrev pub is_short_held : ℕ → Raw → Bool
is_short_held extra (R.Value shown) = is_short_exact extra shown
is_short_held extra (R.Head line table) = is_short_line line
is_short_held extra (R.HeadAndRecords head line) = is_short_line head && is_short_line line
is_short_held extra (R.Records line) = is_short_line line
is_short_held extra raw = true

-- Whether what a raw attribute holds is short enough, whatever another attribute chooses.
abbrev pub is_short_raw : ℕ → Raw → Bool
is_short_raw extra (R.Chosen choice kind) = list_all (λ row. is_short_held extra row.1) (choices_of choice)
is_short_raw extra raw = is_short_held extra raw

-- The length of a name and the word ` nested`.
abbrev pub name_size : List ℕ → ℕ
name_size name = length name + 7

-- The length of the name of a raw attribute, the word ` nested` and a line of padding that isn't there.
abbrev pub raw_name_size : List ℕ → ℕ
raw_name_size name = name_size name + padding_margin

-- Whether the lines of the row of a raw attribute are short enough.
abbrev pub is_short_row : ℕ → Named Raw → Bool
is_short_row kind row = leaves_space (raw_name_size row.0) && is_short_raw (raw_name_size row.0) row.1

-- Whether what an attribute with a name holds is short enough.
abbrev pub is_short_inside : ℕ → Inside → Bool
is_short_inside extra (Value shown) = is_short_value extra 1 shown
is_short_inside extra (Settings shown) = is_short_value extra 1 shown
is_short_inside extra (Held raw) = is_short_raw extra raw
is_short_inside extra inside = true

-- Whether the lines of the row of a name are short enough.
abbrev pub is_short_name : ℕ → Name → Bool
is_short_name kind name = leaves_space (name_size name.0) && is_short_inside (name_size name.0) name.1
