-- The row that a table has for a kind, under a rule of peers. `payload_rule` and `table_row` equal `rule` and `row_in`, but
-- don't unfold to the rows of the lists inside (`RowsAreLookedUp`).
use Rattle.std.specs.Prelude.{◌≡◌, ℕ, ◌==◌, cond, Bool, true, false, List, Option, Some, None, bytes_eq}
use Rattle.attribute_tables_grammar.specs.Shapes.{text, raw}
use Rattle.attribute_tables_grammar.specs.Rules.{Rule, shape_rule, raw_rule}
use Rattle.attribute_tables_grammar.specs.Lists.{Row, raw_row, ListForm, without_context, list_rule}
use Rattle.attribute_tables_grammar.specs.Peers.{RuleOfPeers, peer_rule}
use Rattle.attribute_tables_grammar.specs.Tables.{Payload, Payload.plain, Payload.peer, Payload.list, Payload.link_info}
use Rattle.attribute_tables_grammar.specs.Tables.{Table, Table.end, Table.row, Names, Names.others, Names.name, rule}

-- The entry of a table for a kind: whether the kind is written with the nested bit, and the payload.
pub record Line : Type 0 where
  pub is_nested : Bool
  pub payload : Payload

-- The rule of a list of a table's attributes.
unfoldable pub table_list_rule : RuleOfPeers → ListForm → Table → Rule
table_list_rule p form t = rule p (list form t)

-- The rule of link info.
unfoldable pub link_info_rule : RuleOfPeers → ListForm → Names → Names → Rule
link_info_rule p form data' port_data = rule p (link_info form data' port_data)

-- The rule of a payload, as `rule`.
abbrev pub payload_rule : RuleOfPeers → Payload → Rule
payload_rule p (plain s) = shape_rule s
payload_rule p peer = peer_rule p
payload_rule p (list form t) = table_list_rule p form t
payload_rule p (link_info form data' port_data) = link_info_rule p form data' port_data

-- The entry of a kind, if the table has one.
abbrev pub line_at : Table → ℕ → Option Line
line_at end k = None
line_at (row l n s t) k = cond (k == l) (Some (record { is_nested = n; payload = s })) (line_at t k)

-- The row of an entry; a kind without an entry is raw.
abbrev pub row_of_line : RuleOfPeers → Option Line → Row
row_of_line p None = raw_row
row_of_line p (Some l) = record { is_typed = true; is_nested = l.is_nested; rule = payload_rule p l.payload }

-- The row of a kind without its flag bits, as `row_in`.
abbrev pub table_row : RuleOfPeers → Table → ℕ → Row
table_row p t k = row_of_line p (line_at t k)

-- The table has no row for the kind.
abbrev pub HasNoRow : Table → ℕ → Type 0
HasNoRow t k = line_at t k ≡ None

-- A value of the payload owns bytes, text or a list, so that reading it may run out of memory.
abbrev pub payload_allocates : Payload → Bool
payload_allocates (plain text) = true
payload_allocates (plain raw) = true
payload_allocates (plain _) = false
payload_allocates peer = true
payload_allocates (list form t) = true
payload_allocates (link_info form data' port_data) = true

-- A value of the row owns bytes, text or a list; the value of a raw attribute does.
abbrev pub line_allocates : Option Line → Bool
line_allocates None = true
line_allocates (Some l) = payload_allocates l.payload

-- A value of a kind owns bytes, text or a list.
abbrev pub row_allocates : Table → ℕ → Bool
row_allocates t k = line_allocates (line_at t k)

-- The rule of a list whose rows don't depend on the context.
unfoldable pub rows_rule : ListForm → (ℕ → Row) → Rule
rows_rule form f = list_rule form (without_context f)

-- Rows of which only that of kind 1 is given; other kinds are raw.
abbrev pub only_kind_one : Row → ℕ → Row
only_kind_one r k = cond (k == 1) r raw_row

-- No payload of the table is a list or link info; there may be peers.
abbrev pub holds_no_lists : Table → Bool
holds_no_lists end = true
holds_no_lists (row k n (list form t) rows) = false
holds_no_lists (row k n (link_info form data' port_data) rows) = false
holds_no_lists (row k n _ rows) = holds_no_lists rows

-- The payload of a name, if the name is listed.
abbrev pub payload_at : Names → List ℕ → Option Payload
payload_at others n = None
payload_at (name m s ns) n = cond (bytes_eq n m) (Some s) (payload_at ns n)

-- The rule of a payload, else that of raw bytes.
abbrev pub rule_or_raw : RuleOfPeers → Option Payload → Rule
rule_or_raw p None = raw_rule
rule_or_raw p (Some s) = payload_rule p s
