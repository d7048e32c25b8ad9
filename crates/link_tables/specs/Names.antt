-- The names of the grammar for constant rows of names in code.
use Rattle.std.specs.Prelude.{ℕ, ◌&&◌, nat_le, Bool, true, cond, List, [], ◌∷◌, take, bytes_eq}
use Rattle.attribute_tables_grammar.specs.Tables.{Payload, Table, Names, Names.others, Names.name}
use Rattle.link_tables.specs.declared.rows.Shape.TheVariants.{Raw}
use Rattle.link_tables.specs.declared.rows.Held.{Held}
use Rattle.link_tables.specs.declared.rows.Held.TheVariants.{Plain}
use Rattle.link_tables.specs.declared.names.NameRow.{NameRow}
use Rattle.link_tables.specs.Rows.{payload_of}

-- The names of the grammar for these rows.
abbrev pub names_of : (ℕ → Table) → Payload → List NameRow → Names
names_of tables info [] = others
names_of tables info (r ∷ rs) = name (take r.0 r.1) (payload_of tables info r.2) (names_of tables info rs)

-- The payload of the row with this name; raw bytes if no row has it.
abbrev pub held_by_name : List NameRow → List ℕ → Held
held_by_name [] n = Plain Raw
held_by_name (r ∷ rs) n = cond (bytes_eq n (take r.0 r.1)) r.2 (held_by_name rs n)

-- Each name is at most 12 bytes long, so that its length in the row is within its bytes.
abbrev pub names_fit : List NameRow → Bool
names_fit [] = true
names_fit (r ∷ rs) = nat_le r.0 12 && names_fit rs
