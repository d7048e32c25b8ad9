-- The names of attributes, by table and kind, as the constants in code define them.
use Rattle.std.specs.Prelude.{ℕ, ◌-◌, nat_lt, cond, List, [], ◌∷◌, ◌++◌, Option, Some, None, get_or, map}
use Rattle.link_lines_values.specs.declared.fields.Layout.{Layout}
use Rattle.link_lines_values.specs.declared.number_tables.Numbers.{Numbers}
use Rattle.link_lines_values.specs.declared.values.ShownBy.{ShownBy}
use Rattle.link_lines_raw.specs.Names.{Named, NameRowOf, named_of, rows_in_code}
use Rattle.link_lines_texts.specs.declared.format.FormatBy.{FormatBy}
use Rattle.link_lines_texts.specs.Format.{Inside, inside_of}
use Rattle.link_lines_texts.specs.declared.data_names.TheConstants.{DATA_NAMES}
use Rattle.link_lines_texts.specs.declared.message_names.TheConstants.{FAMILY_NAMES, INFO_ATTRIBUTE_NAMES}
use Rattle.link_lines_texts.specs.declared.message_names.TheConstants.{LINK_ATTRIBUTE_NAMES, NESTED_NAMES}
use Rattle.link_lines_values.specs.DenseRows.{find}
use Rattle.link_tables.specs.declared.kinds.TheConstants.{AMT}
use Rattle.link_tables.specs.declared.table.TheConstants.{LINK_UNSPEC}

-- The name of an attribute, and how its payload is shown.
abbrev pub Name : Type 0
Name = Named Inside

-- A kind, with the attribute's name if the table has a row for it.
abbrev pub AttributeRow : Type 0
AttributeRow = NameRowOf Inside

-- The name that a value in code represents.
abbrev pub viewed : {N : Type 0} → (N → List ℕ) → N × FormatBy (ShownBy Numbers Layout) → Name
viewed f n = named_of f inside_of n

-- The entries that a constant in code represents.
abbrev pub attribute_rows_of : {N : Type 0} → (N → List ℕ) →
    List (ℕ × Option (N × FormatBy (ShownBy Numbers Layout))) → List AttributeRow
attribute_rows_of f ts = rows_in_code f inside_of ts

-- The entries that a constant of several tables in code represents.
abbrev pub tables_of : {B N : Type 0} → (B → List (ℕ × Option (N × FormatBy (ShownBy Numbers Layout)))) → (N → List ℕ) →
    List B → List (List AttributeRow)
tables_of rows f bs = map (λ b. attribute_rows_of f (rows b)) bs

-- The names in each nested table, by the index of the table.
unfoldable pub nested_names : List (List AttributeRow)
nested_names = tables_of (λ b. b.now) (λ n. n.now) NESTED_NAMES

-- The names in each table of data, by the index of the table less that of `AMT`.
unfoldable pub data_names : List (List AttributeRow)
data_names = tables_of (λ b. b.now) (λ n. n.now) DATA_NAMES

-- The names of the attributes of link info.
unfoldable pub info_attribute_names : List AttributeRow
info_attribute_names = attribute_rows_of (λ n. n.now) INFO_ATTRIBUTE_NAMES.now

-- ---- links: the rows that depend on the address family, and the others

-- The names of the rows that depend on the address family of a link.
unfoldable pub family_names : List (List AttributeRow)
family_names = tables_of (λ b. b.now) (λ n. n.now) FAMILY_NAMES

-- The names of the rows that links of every address family have.
unfoldable pub link_rows : List AttributeRow
link_rows = attribute_rows_of (λ n. n.now) LINK_ATTRIBUTE_NAMES.now

-- The first name if there is one, else the second.
abbrev pub first_name : Option Name → Option Name → Option Name
first_name None o = o
first_name (Some n) o = Some n

-- Two lists of the same kinds merged into one.
abbrev pub joined : List AttributeRow → List AttributeRow → List AttributeRow
joined [] us = us
joined (t ∷ ts) [] = t ∷ ts
joined (t ∷ ts) (u ∷ us) = (t.0, first_name t.1 u.1) ∷ joined ts us

-- The names in each table of links: of no family, of bridges, of IPv6, of every other family; and those of link info.
unfoldable pub link_names : List (List AttributeRow)
link_names = map (λ own. joined link_rows own) family_names ++ info_attribute_names ∷ []

-- The names in a table.
unfoldable pub attribute_names_of : ℕ → List AttributeRow
attribute_names_of n =
    cond (nat_lt n LINK_UNSPEC.0) (get_or nested_names n [])
    (cond (nat_lt n AMT.0) (get_or link_names (n - LINK_UNSPEC.0) []) (get_or data_names (n - AMT.0) []))

-- The name of a kind without flag bits in a table.
unfoldable pub attribute_name_of : ℕ → ℕ → Option Name
attribute_name_of table kind = find kind (attribute_names_of table)
