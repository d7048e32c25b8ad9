-- Whether rows of names cover tables: each row has a name and a format that determines its payload, and each name has a
-- row.
use Rattle.std.specs.Prelude.{ℕ, ◌==◌, ◌&&◌, ◌||◌, not, nat_le, Bool, true, false, cond, List, [], ◌∷◌, take, Option}
use Rattle.std.specs.Prelude.{Some, None, bytes_eq}
use Rattle.std.specs.List.{list_all}
use Rattle.link_tables.specs.declared.names.NameRow.{NameRow}
use Rattle.attribute_tables_grammar.specs.Shapes.{Shape, exact, either, at_most, boolean_if_nonzero, boolean_if_one}
use Rattle.attribute_tables_grammar.specs.Shapes.{boolean_of_four, presence, text, raw, never, fixed_record}
use Rattle.attribute_tables_grammar.specs.Shapes.{id_and_boolean, resized}
use Rattle.attribute_tables_grammar.specs.Tables.{Payload, Payload.plain, Payload.peer, Payload.list, Payload.link_info}
use Rattle.attribute_tables_grammar.specs.Tables.{Table, Table.end, Table.row, Names, Names.others, Names.name}
use Rattle.attribute_tables_grammar.specs.Tables.{lacks_name}
use Rattle.link_lines_values.specs.declared.values.ShownBy.TheVariants as V
use Rattle.link_lines_values.specs.Digits.{is_signed_size}
use Rattle.link_lines_values.specs.Records.{Field, fields_determine, has_no_booleans, is_no_boolean}
use Rattle.link_lines_values.specs.Records.{total_size}
use Rattle.link_lines_values.specs.Values.{Shown}
use Rattle.link_tables.specs.declared.kinds.TheConstants.{KINDS, PORT_KINDS}
use Rattle.link_tables.specs.Names.{held_by_name}
use Rattle.link_tables.specs.declared.table.Table.{Table as Named}
use Rattle.link_tables.specs.Tables.{is_link_info}
use Rattle.link_lines_raw.specs.declared.raw_tables.RawTable.{RawTable}
use Rattle.link_lines_raw.specs.Attributes.{indexed_row}
use Rattle.link_lines_raw.specs.Coverage.{determines_raw}
use Rattle.link_lines_raw.specs.Names.{NameRowOf, all_named_rows}
use Rattle.link_lines_raw.specs.Rows.{Raw}
use Rattle.link_lines_raw.specs.Tables.{raw_rows_of}
use Rattle.link_lines_texts.specs.Format.{Inside, Inside.Value, Inside.Settings, Inside.Held, Inside.Peer}
use Rattle.link_lines_texts.specs.Format.{Inside.Nested, is_inside_on_a_line, of_held}
use Rattle.link_lines_texts.specs.AttributeNames.{Name, AttributeRow, data_names, link_names, nested_names}
use Rattle.link_lines_texts.specs.AttributeNames.{attribute_name_of, attribute_names_of}

-- ---- shapes

-- The size of a canonical payload of a shape, if all of them have the same.
abbrev pub canonical_size : Shape → Option ℕ
canonical_size (exact n) = Some n
canonical_size (either m n) = None
canonical_size (at_most n) = None
canonical_size boolean_if_nonzero = Some 1
canonical_size boolean_if_one = Some 1
canonical_size boolean_of_four = Some 4
canonical_size presence = Some 0
canonical_size text = None
canonical_size raw = None
canonical_size never = None
canonical_size (fixed_record m n) = cond (nat_le m n) (Some n) None
canonical_size id_and_boolean = Some 8
canonical_size (resized n) = Some n

-- Whether a size is known and has a property.
abbrev pub is_sized : Option ℕ → (ℕ → Bool) → Bool
is_sized None f = false
is_sized (Some n) f = f n

-- The sizes that numbers have.
abbrev pub is_size : ℕ → Bool
is_size n = (n == 1) || ((n == 2) || ((n == 3) || ((n == 4) || (n == 8))))

-- Whether the canonical payloads of a shape are the numbers 0 and 1.
abbrev pub is_boolean : Shape → Bool
is_boolean boolean_if_nonzero = true
is_boolean boolean_if_one = true
is_boolean boolean_of_four = true
is_boolean s = false

-- Whether a shape is that of an attribute that only has to be present.
abbrev pub is_presence : Shape → Bool
is_presence presence = true
is_presence s = false

-- Whether a shape is that of a text.
abbrev pub is_string : Shape → Bool
is_string text = true
is_string s = false

-- Whether payloads of a shape have at most one byte.
abbrev pub is_optional : Shape → Bool
is_optional (at_most n) = n == 1
is_optional s = false

-- Whether payloads of a shape are addresses: 4 bytes, or 16, or either.
abbrev pub is_address : Shape → Bool
is_address (exact n) = (n == 4) || (n == 16)
is_address (either m n) = (m == 4) && (n == 16)
is_address s = false

-- Whether the fields are a number of 4 bytes and another number or a boolean of 4 bytes.
abbrev pub is_setting : List Field → Bool
is_setting (f ∷ g ∷ []) = (f.1 == 4) && (is_no_boolean f.2 && (g.1 == 4))
is_setting fs = false

-- Whether a canonical payload of the shape holds the fields, followed by zeros only.
abbrev pub has_fields : Shape → List Field → Bool
has_fields (exact n) fs = (total_size fs == n) && has_no_booleans fs
has_fields (resized n) fs = (total_size fs == n) && has_no_booleans fs
has_fields (fixed_record m n) fs =
    nat_le m n && (((total_size fs == n) || (total_size fs == m)) && has_no_booleans fs)
has_fields id_and_boolean fs = is_setting fs
has_fields s fs = false

-- Whether a format determines the canonical payloads of a shape: equal texts mean equal payloads.
abbrev pub shape_determines : Shape → Shown → Bool
shape_determines s (V.Number numbers) = is_sized (canonical_size s) is_size
shape_determines s (V.BigEndian numbers) = is_sized (canonical_size s) is_size
shape_determines s (V.Signed numbers) = is_sized (canonical_size s) is_signed_size
shape_determines s V.Flags = is_sized (canonical_size s) is_size
shape_determines s (V.NamedFlags names) = is_sized (canonical_size s) is_size
shape_determines s V.BigEndianFlags = is_sized (canonical_size s) is_size
shape_determines s V.Boolean = is_boolean s
shape_determines s V.Presence = is_presence s
shape_determines s V.OptionalByte = is_optional s
shape_determines s V.Text = is_string s
shape_determines s V.Bytes = true
shape_determines s V.HardwareAddress = true
shape_determines s V.Address = is_address s
shape_determines s V.PortRange = is_sized (canonical_size s) (λ n. n == 4)
shape_determines s (V.FlagsAndMask names) = is_sized (canonical_size s) (λ n. n == 8)
shape_determines s (V.Record fields) = fields_determine 61 fields && has_fields s fields
shape_determines s (V.SparseRecord fields) = fields_determine 61 fields && has_fields s fields

-- How the payload under a name is shown, if there is a name.
abbrev pub format : Option Name → Option Inside
format None = None
format (Some n) = Some n.1

-- ---- names

-- Whether a property holds in each table of names.
abbrev pub in_each : (List AttributeRow → Bool) → Bool
in_each f = list_all f nested_names && (list_all f link_names && list_all f data_names)

-- Whether what is shown on the line of a name is a single line.
abbrev pub has_line : ℕ → Name → Bool
has_line k n = is_inside_on_a_line n.1

-- Whether no raw attribute has the name of another kind's row.
abbrev pub names_differ : List AttributeRow → List (NameRowOf Raw) → Bool
names_differ ts us = all_named_rows (λ l n. all_named_rows (λ k t. not (bytes_eq n.0 t.0) || (k == l)) ts) us

-- Whether a row of indexes is missing.
abbrev pub has_no_indexes : Option Raw → Bool
has_no_indexes None = true
has_no_indexes (Some held) = false

-- Whether raw attributes have no indexes as names, and their names differ from those of the rows of the table beside
-- theirs.
abbrev pub raw_names_differ : Named × RawTable → Bool
raw_names_differ pair =
    has_no_indexes (indexed_row pair.1) && names_differ (attribute_names_of pair.0.0) (raw_rows_of pair.1.0)

-- ---- tables: each row has a name and a format that determines its payload, and each name has a row

-- Whether a kind has a row in a table.
abbrev pub has_row : Table → ℕ → Bool
has_row end k = false
has_row (row l n s t) k = (k == l) || has_row t k

-- Whether the kind of a name has a row.
abbrev pub is_in : Table → ℕ → Name → Bool
is_in t k n = has_row t k

-- Whether a kind is one of the five of link info.
abbrev pub is_info_kind : ℕ → Name → Bool
is_info_kind k n = nat_le 1 k && nat_le k 5

-- Whether each name in a table of kinds has a payload.
abbrev pub kinds_listed : List NameRow → Names → Bool
kinds_listed [] ns = true
kinds_listed (r ∷ rs) ns = not (lacks_name (take r.0 r.1) ns) && kinds_listed rs ns

-- How the data under a kind's name are shown.
abbrev pub kind_inside : List NameRow → List ℕ → Inside
kind_inside kinds n = of_held (held_by_name kinds n)

abbrev mutual
  -- Whether what is shown under a payload's name determines the payload: a value, what a raw attribute holds, a peer,
  -- or the attributes of its table.
  pub holds_shown : Payload → Option Inside → Bool
  holds_shown (plain s) (Some (Value v)) = shape_determines s v
  holds_shown (plain s) (Some (Settings v)) = shape_determines s v
  holds_shown (plain s) (Some (Held held)) = determines_raw held
  holds_shown peer (Some Peer) = true
  holds_shown (list form t) (Some (Nested n)) = not (is_link_info n) &&
      (all_named_rows (is_in t) (attribute_names_of n.0) && rows_shown n.0 t)
  holds_shown (link_info form data' ports) (Some (Nested n)) =
      is_link_info n && ((names_shown data' KINDS && kinds_listed KINDS data') &&
      (names_shown ports PORT_KINDS && kinds_listed PORT_KINDS ports))
  holds_shown s inside = false

  -- Whether each row of a table is determined by what is shown of it.
  pub rows_shown : ℕ → Table → Bool
  rows_shown m end = true
  rows_shown m (row k nested s t) = holds_shown s (format (attribute_name_of m k)) && rows_shown m t

  -- Whether the data of each kind's name are determined by what is shown of them.
  pub names_shown : Names → List NameRow → Bool
  names_shown others kinds = true
  names_shown (name m s ns) kinds = holds_shown s (Some (kind_inside kinds m)) && names_shown ns kinds
