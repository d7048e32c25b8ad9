-- The lines of raw lists: one for each attribute, followed by those of what it holds, one level deeper.
use Rattle.std.specs.Prelude.{ℕ, zero, suc, ◌+◌, ◌==◌, nat_le, Bool, true, false, cond, List, [], ◌∷◌, ◌++◌, length}
use Rattle.std.specs.Prelude.{take, drop, Option, Some, None, codes, option_map}
use Rattle.netlink_packet_core_grammar.specs.Attributes.{Attribute, attribute_length, first_attribute}
use Rattle.netlink_packet_core_grammar.specs.Numbers.{u16_at}
use Rattle.link_lines_values.specs.Bytes.{bytes_text}
use Rattle.link_lines_values.specs.Indents.{indent}
use Rattle.link_lines_values.specs.Records.{total_size}
use Rattle.link_lines_raw.specs.declared.lists.ListedBy.{ListedBy}
use Rattle.link_lines_raw.specs.declared.lists.ListedBy.TheVariants as L
use Rattle.link_lines_raw.specs.declared.raw_tables.RawTable.{RawTable}
use Rattle.link_lines_raw.specs.declared.rows.RawBy.TheVariants as R
use Rattle.link_lines_raw.specs.Attributes.{is_first_record, is_next_hop, is_shown, next_hop_line}
use Rattle.link_lines_raw.specs.Attributes.{raw_row, raw_text, record_words, shown_padding}
use Rattle.link_lines_raw.specs.Choices.{resolved}
use Rattle.link_lines_raw.specs.Lines.{Line, line_text}
use Rattle.link_lines_raw.specs.Names.{Named}
use Rattle.link_lines_raw.specs.Rows.{Raw, RecordLine}

-- What is listed: attributes of a table, in a whole list; next hops, of which each holds attributes of a table; or
-- records.
abbrev pub Listed : Type 0
Listed = ListedBy (List ℕ) RecordLine

-- The part of bytes of this size at their start, if there are as many bytes, and what follows it. A part that isn't an
-- attribute is one of kind 0.
abbrev pub first_bytes : Bool → ℕ → List ℕ → Option (Attribute × List ℕ)
first_bytes false n bytes = None
first_bytes true n bytes = Some (record { kind = 0; payload = take n bytes }, drop n bytes)

-- The first part of what is listed, and what follows it: an attribute, a next hop, or a record.
unfoldable pub first_part : Listed → List ℕ → Option (Attribute × List ℕ)
first_part (L.Attributes table list) bytes = first_attribute bytes
first_part (L.NextHops table) bytes = first_bytes (is_next_hop bytes) (u16_at 0 bytes) bytes
first_part (L.Records line) bytes = first_bytes (is_first_record line.1 bytes) (total_size line.1) bytes

-- The text of the line of a part, at this level.
unfoldable pub part_text : ℕ → Listed → Attribute → List ℕ
part_text level (L.Attributes table list) e = raw_text (level + 1) table list e
part_text level (L.NextHops table) e = record_words next_hop_line (take 6 (drop 2 e.payload))
part_text level (L.Records line) e = record_words line e.payload

-- The padding after the first part of bytes that lines show: that of an attribute.
unfoldable pub part_padding : Listed → Attribute → List ℕ → Option (List ℕ)
part_padding (L.Attributes table list) e bytes = shown_padding (attribute_length e) bytes
part_padding listed e bytes = None

-- The word `padding` and the bytes in hex.
abbrev pub padding_text : List ℕ → List ℕ
padding_text padding = codes "padding" ++ bytes_text padding

-- The text of the line of padding that lines show, if there is any.
abbrev pub padding_words : Option (List ℕ) → Option (List ℕ)
padding_words padding = option_map padding_text padding

-- The text of the line that is below an attribute's line and before its list: that of the record at the start.
abbrev pub head_of : Raw → List ℕ → Option (List ℕ)
head_of (R.Head line table) bytes = Some (record_words line (take (total_size line.1) bytes))
head_of (R.HeadAndRecords head line) bytes = Some (record_words head (take (total_size head.1) bytes))
head_of raw bytes = None

-- The head of a payload that is shown in lines, the first at this level.
abbrev pub shown_head : ℕ → Raw → List ℕ → Option (List ℕ)
shown_head level raw bytes = cond (is_shown level raw bytes) (head_of raw bytes) None

-- The head of the payload of an attribute with or without a row; `level` is that of the lines below the attribute's.
abbrev pub named_head : ℕ → Option (Named Raw) → List ℕ → Attribute → Option (List ℕ)
named_head level None list e = None
named_head level (Some row) list e = shown_head level (resolved row.1 list) e.payload

-- The text of the line below the line of a part, which has this level, and before its list, if it has one.
unfoldable pub part_head : ℕ → Listed → Attribute → Option (List ℕ)
part_head level (L.Attributes table list) e = named_head (level + 1) (raw_row table e.kind) list e
part_head level listed e = None

-- Attributes of a table that bytes consist of.
abbrev pub attributes_in : RawTable → List ℕ → Listed × List ℕ
attributes_in table bytes = (L.Attributes table bytes, bytes)

-- What a payload lists.
abbrev pub listed_in : Raw → List ℕ → Option (Listed × List ℕ)
listed_in (R.Value shown) bytes = None
listed_in (R.List table) bytes = Some (attributes_in table bytes)
listed_in (R.Chosen choice kind) bytes = None
listed_in (R.Head line table) bytes = Some (attributes_in table (drop (total_size line.1) bytes))
listed_in (R.HeadAndRecords head line) bytes = Some (L.Records line, drop (total_size head.1) bytes)
listed_in (R.Hops table) bytes = Some (L.NextHops table, bytes)
listed_in (R.Records line) bytes = Some (L.Records line, bytes)

-- What a payload lists that is shown in lines, the first at this level.
abbrev pub shown_list : ℕ → Raw → List ℕ → Option (Listed × List ℕ)
shown_list level raw bytes = cond (is_shown level raw bytes) (listed_in raw bytes) None

-- What the payload of an attribute with or without a row lists; `level` is that of the lines below the attribute's.
abbrev pub named_list : ℕ → Option (Named Raw) → List ℕ → Attribute → Option (Listed × List ℕ)
named_list level None list e = None
named_list level (Some row) list e = shown_list level (resolved row.1 list) e.payload

-- What a part lists below its line, which has this level, if anything.
unfoldable pub part_list : ℕ → Listed → Attribute → Option (Listed × List ℕ)
part_list level (L.Attributes table list) e = named_list (level + 1) (raw_row table e.kind) list e
part_list level (L.NextHops table) e = Some (attributes_in table (drop 8 e.payload))
part_list level (L.Records line) e = None

-- The levels that the lines of what is listed take, beyond the first.
abbrev pub levels_of : Listed → ℕ
levels_of (L.NextHops table) = 1
levels_of listed = 0

-- A line of this level, if there is a text.
abbrev pub head_line : ℕ → Option (List ℕ) → List Line
head_line level None = []
head_line level (Some text) = (level, text) ∷ []

-- The line of a part, and one level deeper the lines of its padding and of its head.
abbrev pub part_lines : ℕ → Listed → Attribute → Option (List ℕ) → List Line
part_lines level listed e padding =
    (level, part_text level listed e) ∷
    (head_line (level + 1) (padding_words padding) ++ head_line (level + 1) (part_head level listed e))

-- The lines of what a part lists, if anything, given the lines of lists.
abbrev pub lines_inside : (ℕ → Listed → List ℕ → List Line) → ℕ → Option (Listed × List ℕ) → List Line
lines_inside list level None = []
lines_inside list level (Some x) = list level x.0 x.1

-- The lines of the first part, of what it lists, and of the parts after it, given the lines of lists.
abbrev pub next_lines : (ℕ → Listed → List ℕ → List Line) → ℕ → Listed → List ℕ → Option (Attribute × List ℕ) →
    List Line
next_lines list level listed bytes None = []
next_lines list level listed bytes (Some x) =
    part_lines level listed x.0 (part_padding listed x.0 bytes) ++
    (lines_inside list (level + 1) (part_list level listed x.0) ++ list level listed x.1)

-- The lines of what is listed, computed in at most n steps.
unfoldable pub lines_within : ℕ → ℕ → Listed → List ℕ → List Line
lines_within zero level listed bytes = []
lines_within (suc n) level listed bytes =
    next_lines (λ l m b. lines_within n l m b) level listed bytes (first_part listed bytes)

-- The lines of what is listed.
unfoldable pub listed_lines : ℕ → Listed → List ℕ → List Line
listed_lines level listed bytes = lines_within (length bytes) level listed bytes

-- The lines of what a part lists, if anything.
abbrev pub inside_lines : ℕ → Option (Listed × List ℕ) → List Line
inside_lines level None = []
inside_lines level (Some x) = listed_lines level x.0 x.1

-- The lines below the line of an attribute with or without a row, in a list in which nothing chooses what it holds.
abbrev pub raw_below : ℕ → RawTable → Attribute → List Line
raw_below level table e =
    head_line level (named_head level (raw_row table e.kind) [] e) ++
    inside_lines level (named_list level (raw_row table e.kind) [] e)

-- The lines of what a payload holds, below the line of its attribute.
abbrev pub held_lines : ℕ → Raw → List ℕ → List Line
held_lines level raw bytes =
    head_line level (shown_head level raw bytes) ++ inside_lines level (shown_list level raw bytes)

-- The text of the line of a head, if there is one.
abbrev pub head_text : ℕ → Option (List ℕ) → List ℕ
head_text level None = []
head_text level (Some text) = line_text (level, text)

-- The text of the line of a part, and one level deeper those of the lines of its padding and of its head.
abbrev pub part_with_head : ℕ → Listed → Attribute → Option (List ℕ) → List ℕ
part_with_head level listed e padding =
    indent level ++ (part_text level listed e ++ 10 ∷
    (head_text (level + 1) (padding_words padding) ++ head_text (level + 1) (part_head level listed e)))

-- Whether a part is one of what is listed.
abbrev pub is_part : Listed → List ℕ → Bool
is_part (L.Attributes table list) bytes = true
is_part (L.NextHops table) bytes = nat_le 8 (length bytes)
is_part (L.Records line) bytes = length bytes == total_size line.1
