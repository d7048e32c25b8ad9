-- The lines of a list of attributes: one for each attribute, followed by those of the list that it holds, one level
-- deeper; a peer's line is followed by that of its header and those of its attributes, and a raw attribute's by those
-- of what it holds.
use Rattle.std.specs.Prelude.{ℕ, zero, suc, ◌+◌, nat_le, true, cond, List, [], ◌∷◌, ◌++◌, length, drop}
use Rattle.std.specs.Prelude.{Option, Some, None, slice_index}
use Rattle.netlink_packet_core_grammar.specs.Attributes.{Attribute, proper_kind, first_attribute}
use Rattle.attribute_tables_grammar.specs.Lists.{Context, no_kind_in_force}
use Rattle.attribute_tables_grammar.specs.Tables.{info_next}
use Rattle.link_lines_values.specs.Bytes.{bytes_text}
use Rattle.link_lines_values.specs.Indents.{indent}
use Rattle.link_lines_values.specs.Values.{value_text}
use Rattle.link_lines_raw.specs.Attributes.{after_name, plain_bytes, raw_text}
use Rattle.link_lines_raw.specs.Lines.{lines_text}
use Rattle.link_lines_raw.specs.Lists.{held_lines, raw_below}
use Rattle.link_lines_texts.specs.declared.attributes.ListTable.{ListTable}
use Rattle.link_lines_texts.specs.declared.format.Scope.{Scope}
use Rattle.link_lines_texts.specs.Format.{Inside, Inside.Value, Inside.Plain, Inside.Held, Inside.Peer, Inside.Nested}
use Rattle.link_lines_texts.specs.Format.{known_inside, within_reach}
use Rattle.link_lines_texts.specs.Links.{link_header_line}
use Rattle.link_tables.specs.declared.table.Table.{Table}
use Rattle.link_tables.specs.Tables.{family_table, is_link_info}
use Rattle.link_lines_texts.specs.AttributeNames.{Name, attribute_name_of}
use Rattle.link_lines_texts.specs.RawTables.{raw_table}

-- The kinds in force after an attribute, which only those of link info change.
abbrev pub next_in : Table → Context → Attribute → Context
next_in table c e = cond (is_link_info table) (info_next c (proper_kind e.kind) e.payload) c

-- The table of a link's attributes, in a message or in a peer.
abbrev pub of_link : Scope → List ℕ → ListTable
of_link scope b = record { table = family_table (slice_index b 0); scope = scope }

-- The text on an attribute's line, after its name: a value; bytes; or what a raw attribute holds, if it is on the line.
-- A peer without a header, which no normal text has, is shown as bytes. `level` is that of the lines below.
abbrev pub inside_text : ℕ → Inside → List ℕ → List ℕ
inside_text level (Value shown) p = value_text shown p
inside_text level Plain p = plain_bytes p
inside_text level (Held raw) p = after_name level raw p
inside_text level Peer p = cond (nat_le 16 (length p)) [] (bytes_text p)
inside_text level inside p = []

-- The lines below an attribute's line, but not those of a list with a table: for a peer, that of its header; those of
-- what a raw attribute holds.
abbrev pub header_inside : ℕ → Inside → List ℕ → List ℕ
header_inside level Peer p = cond (nat_le 16 (length p)) (link_header_line level p) []
header_inside level (Held raw) p = lines_text (held_lines level raw p)
header_inside level inside p = []

-- What the attributes of a peer are in.
abbrev pub in_peer : Scope → Scope
in_peer scope = record { is_in_peer = true; is_request = scope.is_request }

-- The list of a peer's attributes, with its table; none without a header.
abbrev pub peer_list : Scope → List ℕ → Option (ListTable × List ℕ)
peer_list scope p = cond (nat_le 16 (length p)) (Some (of_link (in_peer scope) p, drop 16 p)) None

-- The list with a table that an attribute holds, and the table.
abbrev pub inside_list : Scope → Inside → List ℕ → Option (ListTable × List ℕ)
inside_list scope (Nested t) p = Some (record { table = t; scope = scope }, p)
inside_list scope Peer p = peer_list scope p
inside_list scope inside p = None

-- The way in which an attribute's payload is shown under a name; `level` is that of the lines below.
abbrev pub inside_under : ℕ → ListTable → Context → Name → List ℕ → Inside
inside_under level m c t p = within_reach level (known_inside m.scope c t.1 p)

-- The text of an attribute: under its name, or as a raw one if it has no row.
abbrev pub named_attribute_text : ℕ → ListTable → Context → Option Name → Attribute → List ℕ
named_attribute_text level m c None e = raw_text level (raw_table m.table) [] e
named_attribute_text level m c (Some t) e = t.0 ++ inside_text level (inside_under level m c t e.payload) e.payload

-- The lines below an attribute's line, but not those of a list with a table.
abbrev pub named_attribute_header : ℕ → ListTable → Context → Option Name → Attribute → List ℕ
named_attribute_header level m c None e = lines_text (raw_below level (raw_table m.table) e)
named_attribute_header level m c (Some t) e = header_inside level (inside_under level m c t e.payload) e.payload

-- The line of an attribute, and those below it, but not those of a list with a table.
unfoldable pub attribute_lines : ℕ → ListTable → Context → Attribute → List ℕ
attribute_lines level m c e =
    let attribute_name_row = attribute_name_of m.table.0 (proper_kind e.kind) in
    indent level ++ (named_attribute_text (level + 1) m c attribute_name_row e ++
    10 ∷ named_attribute_header (level + 1) m c attribute_name_row e)

-- The list in an attribute whose name has been looked up, if lines of this level may show one.
abbrev pub named_attribute_list : ℕ → ListTable → Context → Option Name → Attribute → Option (ListTable × List ℕ)
named_attribute_list level m c None e = None
named_attribute_list level m c (Some t) e = inside_list m.scope (inside_under level m c t e.payload) e.payload

-- The list in an attribute whose line has this level, if lines below show one.
unfoldable pub list_inside : ℕ → ListTable → Context → Attribute → Option (ListTable × List ℕ)
list_inside level m c e = named_attribute_list (level + 1) m c (attribute_name_of m.table.0 (proper_kind e.kind)) e

-- The lines of the list in an attribute, if there is one, given the lines of lists.
abbrev pub inside_lines : (ℕ → ListTable → Context → List ℕ → List ℕ) → ℕ → Option (ListTable × List ℕ) → List ℕ
inside_lines list level None = []
inside_lines list level (Some x) = list level x.0 no_kind_in_force x.1

-- The lines of the first attribute, of the list in it, and of the attributes after it, given the lines of lists.
abbrev pub next_lines : (ℕ → ListTable → Context → List ℕ → List ℕ) → ℕ → ListTable → Context →
    Option (Attribute × List ℕ) → List ℕ
next_lines list level m c None = []
next_lines list level m c (Some x) =
    attribute_lines level m c x.0 ++
    (inside_lines list (level + 1) (list_inside level m c x.0) ++ list level m (next_in m.table c x.0) x.1)

-- The lines of attributes, computed in at most n steps.
unfoldable pub lines_within : ℕ → ℕ → ListTable → Context → List ℕ → List ℕ
lines_within zero level m c bytes = []
lines_within (suc n) level m c bytes = next_lines (λ l t d b. lines_within n l t d b) level m c (first_attribute bytes)

-- The lines of a list of attributes of a table.
unfoldable pub list_lines : ℕ → ListTable → List ℕ → List ℕ
list_lines level m bytes = lines_within (length bytes) level m no_kind_in_force bytes

-- The lines of the list in an attribute, if there is one.
abbrev pub nested_lines : ℕ → Option (ListTable × List ℕ) → List ℕ
nested_lines level None = []
nested_lines level (Some x) = list_lines level x.0 x.1

-- The lines of the rest of a list, in the context at its start.
unfoldable pub rest_lines : ℕ → ListTable → Context → List ℕ → List ℕ
rest_lines level m c bytes = lines_within (length bytes) level m c bytes
