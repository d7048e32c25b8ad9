-- The lists of links: the names of their attributes, and what these contain.
use Rattle.std.specs.Prelude.{ℕ, ◌==◌, ◌<◌, ◌||◌, nat_lt, Bool, cond, List, [], ◌∷◌, ◌++◌, codes}
use Rattle.std.specs.Prelude.{get_or, map, Option, Some, None, option_map}
use Rattle.std.specs.List.{list_all}
use Rattle.attribute_tables_grammar.specs.Lists.{Context}
use Rattle.link_tables.specs.declared.rows.Form.{Form}
use Rattle.link_tables.specs.declared.rows.Form.TheVariants.{FirstOnly, NonEmpty}
use Rattle.link_tables.specs.declared.rows.Held.{Held}
use Rattle.link_tables.specs.declared.rows.Held.TheVariants as H
use Rattle.link_tables.specs.declared.table.Table.{Table}
use Rattle.link_tables.specs.declared.table.TheConstants.{LINK_INFO, LINK_UNSPEC, SPECIFIC, VF}
use Rattle.link_tables.specs.declared.kinds.TheConstants.{AMT, MACVLAN_ADDRESS}
use Rattle.link_tables.specs.declared.table.TheConstants.{VF_INFOS, VF_PORTS, VLAN}
use Rattle.link_tables.specs.InForce.{held_in_force}
use Rattle.link_tables.specs.Tables.{is_link_info}
use Rattle.link_capture_walks.specs.Listings.{Listing as ListingOf, whole as whole_of}
use Rattle.link_capture_lists.specs.declared.rows.TheConstants.{DATA_ROWS, MESSAGE_ROWS}
use Rattle.link_capture_lists.specs.declared.tables.Inside.{Inside}
use Rattle.link_capture_lists.specs.declared.tables.Inside.TheVariants as I
use Rattle.link_capture_lists.specs.declared.tables.ListTable.{ListTable}
use Rattle.link_capture_lists.specs.declared.tables.MissingKind.TheVariants.{Link, Port}

-- ---- rows

-- A row: a kind, its name, and the content of its payload.
abbrev pub NamedRow : Type 0
NamedRow = ℕ × List ℕ × Held

-- The rows of a table in code, as the specification has them.
abbrev pub row_values : {N : Type 0} → (N → List ℕ) → List (ℕ × N × Held) → List NamedRow
row_values f rs = map (λ r. (r.0, f r.1, r.2)) rs

-- The rows of tables in code, table by table.
abbrev pub all_row_values : {B N : Type 0} → (B → List (ℕ × N × Held)) → (N → List ℕ) → List B → List (List NamedRow)
all_row_values g f bs = map (λ b. row_values f (g b)) bs

-- The rows of the tables of link messages.
unfoldable pub message_rows : List (List NamedRow)
message_rows = all_row_values (λ b. b.now) (λ n. n.now) MESSAGE_ROWS

-- The rows of the tables of data.
unfoldable pub data_rows : List (List NamedRow)
data_rows = all_row_values (λ b. b.now) (λ n. n.now) DATA_ROWS

-- The rows of all tables, by the index of the table.
unfoldable pub table_rows : List (List NamedRow)
table_rows = message_rows ++ data_rows

-- The row of a kind.
abbrev pub find : ℕ → List NamedRow → Option NamedRow
find k [] = None
find k (r ∷ rs) = cond (k == r.0) (Some r) (find k rs)

-- A name is ASCII.
abbrev pub is_name : List ℕ → Bool
is_name n = list_all (λ b. nat_lt b 128) n

-- ---- the contents of attributes

-- The content of a payload, by its row.
abbrev pub inside_of : Held → Inside
inside_of (H.Plain s) = I.Value s
inside_of H.Peer = I.Peer
inside_of (H.List f t) = I.List f t
inside_of H.LinkInfo = I.List NonEmpty LINK_INFO

-- The content of an attribute of link info; if the kind that it depends on isn't in force, any payload is refused.
abbrev pub info_inside : ℕ → Option Held → Inside
info_inside k (Some content) = inside_of content
info_inside k None = I.Refused (cond (k == 5) Port Link)

-- The name of a kind in link info.
abbrev pub info_name : ℕ → Option (List ℕ)
info_name k =
    cond (k == 1) (Some (codes "IFLA_INFO_KIND"))
    (cond (k == 2) (Some (codes "IFLA_INFO_DATA"))
    (cond (k == 3) (Some (codes "IFLA_INFO_XSTATS"))
    (cond (k == 4) (Some (codes "IFLA_INFO_SLAVE_KIND"))
    (cond (k == 5) (Some (codes "IFLA_INFO_SLAVE_DATA")) None))))

-- The name of a kind in link info, and the content of its payload under the kinds in force.
abbrev pub info_row : Context → ℕ → Option (List ℕ × Inside)
info_row c k = option_map (λ n. (n, info_inside k (held_in_force c k))) (info_name k)

-- The name of a row in any other table, and the content of its payload.
abbrev pub table_row : Option NamedRow → Option (List ℕ × Inside)
table_row o = option_map (λ r. (r.1, inside_of r.2)) o

-- The name of a kind without flag bits in a table, and the content of its payload.
unfoldable pub row_in : Table → Context → ℕ → Option (List ℕ × Inside)
row_in t c k = cond (is_link_info t) (info_row c k) (table_row (find k (get_or table_rows t.0 [])))

-- ---- lists

-- A list from some attribute on, by its list kind and the table of its attributes.
abbrev pub Listing : Type 0
Listing = ListingOf ListTable

-- A list kind, and the table of its attributes.
abbrev pub list_table : Form → Table → ListTable
list_table f t = record { form = f; rows = t }

-- A list of the attributes of a table, from its first attribute on.
abbrev pub whole : Form → Table → Bool → Listing
whole f t judged = whole_of (list_table f t) judged

-- The bytes with which a list continues after an attribute.
abbrev pub list_rest : Form → List ℕ → List ℕ
list_rest FirstOnly after = []
list_rest _ after = after

-- ---- how deeply attributes are nested, by the index of a table

-- How deeply attributes are nested in a nested table of link messages, and in one of raw attributes.
abbrev pub nested_depth : ℕ → ℕ
nested_depth t = cond (t == VF_INFOS.0) 3 (cond (t == VF.0 || (t == SPECIFIC.0 || t == VF_PORTS.0)) 2 1)

-- How deeply attributes are nested in a table of data.
abbrev pub data_depth : Bool → ℕ → ℕ
data_depth judged t = cond (t == MACVLAN_ADDRESS.0) 1 (cond judged 5 2)

-- How deeply attributes are nested in a table.
abbrev pub depth : Bool → ℕ → ℕ
depth judged t =
    cond (nat_lt t LINK_UNSPEC.0) (nested_depth t)
    (cond (nat_lt t LINK_INFO.0) (cond judged 7 4) (cond (nat_lt t AMT.0) (cond judged 6 3)
    (cond (nat_lt t VLAN.0) (data_depth judged t) 1)))

-- How deeply attributes are nested inside an attribute with this content.
abbrev pub inside_depth : Bool → Inside → ℕ
inside_depth judged (I.List f t) = depth judged t.0
inside_depth judged I.Peer = cond judged 4 0
inside_depth judged _ = 0

-- This content is nested less deeply than the table t, which has the attribute.
abbrev pub IsLower : ℕ → Inside → Type 0
IsLower t inside = (judged : Bool) → inside_depth judged inside < depth judged t
