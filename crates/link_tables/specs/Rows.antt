-- The tables of the grammar for constant rows in code.
use Rattle.std.specs.Borrow.{Bor}
use Rattle.std.specs.Prelude.{◌≡◌, ℕ, suc, ◌==◌, ◌&&◌, get_or, Bool, true, List, [], ◌∷◌, map, Option, Some, None}
use Rattle.attribute_tables_grammar.specs.Shapes as shapes
use Rattle.attribute_tables_grammar.specs.Lists as lists
use Rattle.attribute_tables_grammar.specs.LookUps.{Line}
use Rattle.attribute_tables_grammar.specs.Tables.{Payload, Payload.plain, Payload.peer, Payload.list, Table, Table.end}
use Rattle.attribute_tables_grammar.specs.Tables.{Table.row}
use Rattle.link_tables.specs.declared.rows.Shape.{Shape}
use Rattle.link_tables.specs.declared.rows.Shape.TheVariants.{Exact, Either, AtMost, BooleanIfNonzero, BooleanIfOne}
use Rattle.link_tables.specs.declared.rows.Shape.TheVariants.{BooleanOfFour, Presence, Text, Raw, Never, FixedRecord}
use Rattle.link_tables.specs.declared.rows.Shape.TheVariants.{IdAndBoolean, Resized}
use Rattle.link_tables.specs.declared.rows.Form.{Form}
use Rattle.link_tables.specs.declared.rows.Form.TheVariants.{Any, NonEmpty, OfKindOne, Ports, FirstOnly}
use Rattle.link_tables.specs.declared.rows.Held.{Held}
use Rattle.link_tables.specs.declared.rows.Held.TheVariants.{Plain, Peer, List as HeldList, LinkInfo}
use Rattle.link_tables.specs.declared.rows.Row.{Row}
use Rattle.link_tables.specs.declared.rows.Row.TheVariants.{Listed, Unlisted}
use Rattle.link_tables.specs.declared.rows.TableRows.{TableRows}

-- The grammar's shape for a shape in code.
abbrev pub shape_of : Shape → shapes.Shape
shape_of (Exact n) = shapes.exact n
shape_of (Either m n) = shapes.either m n
shape_of (AtMost n) = shapes.at_most n
shape_of BooleanIfNonzero = shapes.boolean_if_nonzero
shape_of BooleanIfOne = shapes.boolean_if_one
shape_of BooleanOfFour = shapes.boolean_of_four
shape_of Presence = shapes.presence
shape_of Text = shapes.text
shape_of Raw = shapes.raw
shape_of Never = shapes.never
shape_of (FixedRecord m n) = shapes.fixed_record m n
shape_of IdAndBoolean = shapes.id_and_boolean
shape_of (Resized n) = shapes.resized n

-- The grammar's list kind for a list kind in code.
abbrev pub form_of : Form → lists.ListForm
form_of Any = lists.any
form_of NonEmpty = lists.non_empty
form_of OfKindOne = lists.of_kind_one
form_of Ports = lists.ports
form_of FirstOnly = lists.first_only

-- The grammar's payload for a payload in code, given the tables by number and the payload of link info.
abbrev pub payload_of : (ℕ → Table) → Payload → Held → Payload
payload_of tables info (Plain s) = plain (shape_of s)
payload_of tables info Peer = peer
payload_of tables info (HeldList f t) = list (form_of f) (tables t.0)
payload_of tables info LinkInfo = info

-- The grammar's entry for a row in code, if the row lists its kind.
abbrev pub line_of : (ℕ → Table) → Payload → Row → Option Line
line_of tables info (Listed k n h) = Some (record { is_nested = n; payload = payload_of tables info h })
line_of tables info (Unlisted k) = None

-- The grammar's table for these rows.
abbrev pub build : (ℕ → Table) → Payload → List Row → Table
build tables info [] = end
build tables info (Listed k n h ∷ rs) = row k n (payload_of tables info h) (build tables info rs)
build tables info (Unlisted k ∷ rs) = build tables info rs

-- The kind of a row.
abbrev pub kind_of : Row → ℕ
kind_of (Listed k n h) = k
kind_of (Unlisted k) = k

-- The rows are those of the kinds from n on, without a gap.
abbrev pub are_consecutive : ℕ → List Row → Bool
are_consecutive n [] = true
are_consecutive n (r ∷ rs) = (kind_of r == n) && are_consecutive (suc n) rs

-- The rows are those of the kinds from the first row's on, without a gap.
abbrev pub are_dense : List Row → Bool
are_dense [] = true
are_dense (r ∷ rs) = are_consecutive (suc (kind_of r)) rs

-- The rows of a table in code.
abbrev pub rows_in : TableRows → List Row
rows_in r = r.rows.now

-- There is no gap between the kinds of the rows, and `first` is the kind of the first one.
pub record IsIndexed (r : TableRows) : Type 0 where
  pub dense : are_dense r.rows.now ≡ true
  pub first : r.first ≡ kind_of (get_or r.rows.now 0 (Unlisted r.first))

-- The rows of several tables, from borrowed slices.
abbrev pub lists_of : List (Bor (List Row)) → List (List Row)
lists_of bs = map (λ b. b.now) bs
