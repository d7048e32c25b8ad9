-- Raw attributes: the row of a kind, whole lists, and what of a payload is shown.
use Rattle.std.specs.Prelude.{ℕ, zero, suc, ◌+◌, ◌-◌, ◌%◌, ◌==◌, ◌&&◌, nat_le, Bool, true, false, cond, List}
use Rattle.std.specs.Prelude.{[], ◌∷◌, ◌++◌, length, take, drop, Option, Some, None, codes, option_map}
use Rattle.netlink_packet_core_grammar.specs.Attributes.{Attribute}
use Rattle.netlink_packet_core_grammar.specs.Numbers.{u16_at}
use Rattle.link_lines_values.specs.declared.exact.ExactBy.TheVariants as X
use Rattle.link_lines_values.specs.Bytes.{bytes_text}
use Rattle.link_lines_values.specs.Digits.{four_digits}
use Rattle.link_lines_values.specs.DenseRows.{find}
use Rattle.link_lines_values.specs.Exact.{raw_value}
use Rattle.link_lines_values.specs.Records.{Field, fields_text, is_record, total_size}
use Rattle.link_lines_values.specs.declared.values.ShownBy.TheVariants as V
pub use Rattle.link_lines_parts.specs.KindNames.{has_byte_order_bit, has_nested_bit, index_name, nested_word}
use Rattle.link_lines_parts.specs.Levels.{deepest_level}
pub use Rattle.link_lines_parts.specs.Whole.{is_whole, is_whole_after, padded_length, shown_padding}
use Rattle.link_lines_raw.specs.declared.raw_tables.RawTable.{RawTable}
use Rattle.link_lines_raw.specs.declared.raw_tables.TheConstants.{ACTION, INDEXED_ACTION, INDEXED_IPV4, INDEXED_IPV6}
use Rattle.link_lines_raw.specs.declared.records.TheConstants.{RTNEXTHOP_LINE}
use Rattle.link_lines_raw.specs.declared.rows.RawBy.TheVariants as R
use Rattle.link_lines_raw.specs.Choices.{resolved}
use Rattle.link_lines_raw.specs.Names.{Named}
use Rattle.link_lines_raw.specs.Rows.{Raw, RecordLine, record_line_of}
use Rattle.link_lines_raw.specs.Tables.{raw_rows_of}

-- ---- rows

-- What an attribute holds in a table in which each kind is an index.
abbrev pub indexed_row : RawTable → Option Raw
indexed_row table =
    cond (table.0 == INDEXED_IPV4.0) (Some (R.Value (X.Sized 4 V.Address)))
    (cond (table.0 == INDEXED_IPV6.0) (Some (R.Value (X.Sized 16 V.Address)))
    (cond (table.0 == INDEXED_ACTION.0) (Some (R.List ACTION)) None))

-- The row that is given, or else the index's.
abbrev pub row_or_index : ℕ → Option (Named Raw) → Option Raw → Option (Named Raw)
row_or_index kind (Some row) indexed = Some row
row_or_index kind None indexed = option_map (λ raw. (index_name kind, raw)) indexed

-- The row of a kind without flag bits.
unfoldable pub proper_row : RawTable → ℕ → Option (Named Raw)
proper_row table kind = row_or_index kind (find kind (raw_rows_of table.0)) (indexed_row table)

-- The row of a kind; none if it has the bit 0x4000.
unfoldable pub raw_row : RawTable → ℕ → Option (Named Raw)
raw_row table kind = cond (has_byte_order_bit kind) None (proper_row table (kind % 0x4000))

-- ---- next hops and records

-- The record of a next hop's line.
unfoldable pub next_hop_line : RecordLine
next_hop_line = record_line_of (λ n. n.now) RTNEXTHOP_LINE

-- The line of a record: its word, and its fields.
abbrev pub record_words : RecordLine → List ℕ → List ℕ
record_words line bytes = line.0 ++ fields_text 32 false line.1 bytes

-- Whether bytes of this size are a whole next hop (rtnetlink.h, struct rtnexthop): after its length, the rest of the
-- struct, and attributes up to the length.
abbrev pub is_hop_of : ℕ → List ℕ → Bool
is_hop_of size bytes = is_record next_hop_line.1 (take 6 (drop 2 bytes)) && is_whole (take (size - 8) (drop 8 bytes))

-- Whether bytes begin with a whole next hop: first its length in bytes, little-endian.
abbrev pub is_next_hop : List ℕ → Bool
is_next_hop bytes =
    nat_le 8 (length bytes) && (nat_le 8 (u16_at 0 bytes) && (nat_le (u16_at 0 bytes) (length bytes) &&
    is_hop_of (u16_at 0 bytes) bytes))

-- Whether the bytes after the first `skip` are whole next hops up to the end.
unfoldable pub are_next_hops_after : ℕ → List ℕ → Bool
are_next_hops_after skip [] = true
are_next_hops_after (suc skip) (b ∷ bytes) = are_next_hops_after skip bytes
are_next_hops_after zero (b ∷ bytes) =
    is_next_hop (b ∷ bytes) && are_next_hops_after (u16_at 0 (b ∷ bytes) - 1) bytes

-- Whether bytes begin with a record that has a line of its own.
abbrev pub is_first_record : List Field → List ℕ → Bool
is_first_record fields bytes =
    nat_le 1 (total_size fields) && (nat_le (total_size fields) (length bytes) &&
    is_record fields (take (total_size fields) bytes))

-- Whether the bytes after the first `skip` are records up to the end.
unfoldable pub are_records_after : List Field → ℕ → List ℕ → Bool
are_records_after fields skip [] = true
are_records_after fields (suc skip) (b ∷ bytes) = are_records_after fields skip bytes
are_records_after fields zero (b ∷ bytes) =
    is_first_record fields (b ∷ bytes) && are_records_after fields (total_size fields - 1) bytes

-- ---- payloads

-- Whether bytes are a record, and the test holds for what follows it.
abbrev pub is_headed : (List ℕ → Bool) → RecordLine → List ℕ → Bool
is_headed test line bytes =
    nat_le (total_size line.1) (length bytes) && (is_record line.1 (take (total_size line.1) bytes) &&
    test (drop (total_size line.1) bytes))

-- Whether a payload of a list, next hops or records is exactly that. What another attribute would have to choose isn't
-- known here.
abbrev pub holds_lines : Raw → List ℕ → Bool
holds_lines (R.Value shown) bytes = false
holds_lines (R.List table) bytes = is_whole bytes
holds_lines (R.Chosen choice kind) bytes = false
holds_lines (R.Head line table) bytes = is_headed is_whole line bytes
holds_lines (R.HeadAndRecords head line) bytes = is_headed (are_records_after line.1 0) head bytes
holds_lines (R.Hops table) bytes = are_next_hops_after 0 bytes
holds_lines (R.Records line) bytes = are_records_after line.1 0 bytes

-- The levels that the lines of a payload take, beyond the first: a next hop's attributes are one level deeper than it.
abbrev pub levels_below : Raw → ℕ
levels_below (R.Hops table) = 1
levels_below raw = 0

-- Whether lines show a payload, the first at this level: if the payload is exactly what its row says, and no line is too
-- deep.
abbrev pub is_shown : ℕ → Raw → List ℕ → Bool
is_shown level raw bytes = nat_le (level + levels_below raw) deepest_level && holds_lines raw bytes

-- The word `bytes` and the bytes in hex.
abbrev pub plain_bytes : List ℕ → List ℕ
plain_bytes bytes = codes " bytes" ++ bytes_text bytes

-- What follows an attribute's name on the same line: a value, or nothing if lines below show the payload, the first at
-- this level, or else the bytes.
unfoldable pub after_name : ℕ → Raw → List ℕ → List ℕ
after_name level (R.Value shown) bytes = raw_value shown bytes
after_name level raw bytes = cond (is_shown level raw bytes) [] (plain_bytes bytes)

-- A kind as a number, and the bytes of a payload.
abbrev pub unnamed_text : ℕ → List ℕ → List ℕ
unnamed_text kind bytes = codes "kind " ++ (four_digits kind ++ bytes_text bytes)

-- The text of an attribute's line: its name, or its kind as a number and the bytes. `list` is the list that it is in,
-- `level` that of the lines below.
abbrev pub named_text : ℕ → Option (Named Raw) → List ℕ → Attribute → List ℕ
named_text level None list e = unnamed_text e.kind e.payload
named_text level (Some row) list e = row.0 ++ (nested_word e.kind ++ after_name level (resolved row.1 list) e.payload)

-- The text of the line of a raw attribute in a table; `list` is the list that it is in, `level` that of the lines below.
unfoldable pub raw_text : ℕ → RawTable → List ℕ → Attribute → List ℕ
raw_text level table list e = named_text level (raw_row table e.kind) list e
