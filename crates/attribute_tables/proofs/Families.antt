-- The rule of a family's list is that of its rows, and a payload without attributes fits.
use Rattle.std.proofs.Common.{◌≡◌, ℕ, List, true}
use Rattle.attribute_tables_grammar.specs.Laws.{RowsAreLookedUp, RowsWithoutListsFit}
use Rattle.attribute_tables_grammar.specs.Lists.{any}
use Rattle.attribute_tables_grammar.specs.LookUps.{table_list_rule, rows_rule, table_row, holds_no_lists}
use Rattle.attribute_tables_grammar.specs.Peers.{bytes_peer}
use Rattle.attribute_tables_grammar.specs.Tables.{Table}
use Rattle.attribute_tables.proofs.Beginnings.{family-begins}

pub family-list : RowsAreLookedUp → (t : Table) → table_list_rule bytes_peer any t ≡ rows_rule any (table_row bytes_peer t)
family-list law t = law.named bytes_peer any t

pub ruleset family_lists = (family-list, family-begins)

-- the payload of a table without lists fits
pub family-fits : RowsWithoutListsFit → (t : Table) → holds_no_lists t ≡ true → (k : ℕ) (bytes : List ℕ) → (table_row bytes_peer t k).rule.fits bytes ≡ true
family-fits law t h k bytes = law bytes_peer t h k bytes

pub ruleset families = (family-fits)
