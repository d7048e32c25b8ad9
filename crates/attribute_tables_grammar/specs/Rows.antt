-- The notation for rows of tables: a kind, an arrow, and its payload.
use Rattle.std.specs.Prelude.{ℕ, true, false}
use Rattle.attribute_tables_grammar.specs.Shapes.{Shape}
use Rattle.attribute_tables_grammar.specs.Lists.{any}
use Rattle.attribute_tables_grammar.specs.Tables.{Payload, Payload.plain, Payload.list, Table, Table.end, Table.row}

infixr 12 ◌↪◌
infixr 12 ◌↠◌
infixr 12 ◌⇉◌
infixr 10 ◌⸴◌
-- `k ↪ s`: a row of kind k whose payload has the shape s, as `4 ↪ exact 2`. Byte order is of no concern here, only for
-- typed values.
abbrev pub ◌↪◌ : ℕ → Shape → Table → Table
k ↪ s = λ t. row k false (plain s) t

-- `k ↠ s`: a row of kind k with the payload s, as `5 ↠ list any t`.
abbrev pub ◌↠◌ : ℕ → Payload → Table → Table
k ↠ s = λ t. row k false s t

-- `k ⇉ s`: a row of kind k with the payload s, whose kind is written with the nested bit.
abbrev pub ◌⇉◌ : ℕ → Payload → Table → Table
k ⇉ s = λ t. row k true s t

-- `line ⸴ t`: a row, followed by the rows of t.
abbrev pub ◌⸴◌ : (Table → Table) → Table → Table
line ⸴ t = line t

-- A list of raw attributes: none of their kinds has a row.
abbrev pub raw_list : Payload
raw_list = list any end
