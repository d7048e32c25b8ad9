-- The constant rows are those of the grammar's tables, and the constant names are those of its kinds and port kinds.
use Rattle.std.proofs.Common.{◌≡◌, ℕ, true, List, [], get_or, map, refl, sym}
use Rattle.std.proofs.Math.ListN.{get_or-map}
use Rattle.attribute_tables_grammar.specs.Tables.{Table.end, rows_bounded}
use Rattle.link_info_grammar.specs.Families.{kinds, port_kinds}
use Rattle.link_message_grammar.specs.NestedTables.{resized}
use Rattle.link_tables.proofs.LookUps.{all_at}
use Rattle.link_tables.specs.declared.kinds.TheConstants.{KINDS, PORT_KINDS}
use Rattle.link_tables.specs.declared.rows.Row.{Row}
use Rattle.link_tables.specs.declared.table_rows.TheConstants.{TABLES}
use Rattle.link_tables.specs.Names.{names_of}
use Rattle.link_tables.specs.Rows.{build, are_dense}
use Rattle.link_tables.specs.Tables.{all_tables, info_payload, table_of}

-- the constant rows, in the order of the tables
abbrev pub lists : List (List Row)
lists = map (λ b. b.now) TABLES.now

pub dense : (t : ℕ) → are_dense (get_or lists t []) ≡ true
dense t = all_at are_dense lists t [] refl refl

pub built : (t : ℕ) → build table_of info_payload (get_or lists t []) ≡ table_of t
unfolding table_of info_payload resized
built t = sym (get_or-map (build table_of info_payload) lists t [])

pub bounded : (t : ℕ) → rows_bounded (table_of t) ≡ true
unfolding table_of resized
bounded t = all_at rows_bounded all_tables t end refl refl

pub kinds_built : names_of table_of info_payload KINDS ≡ kinds
unfolding table_of info_payload
kinds_built = refl

pub port_kinds_built : names_of table_of info_payload PORT_KINDS ≡ port_kinds
unfolding table_of info_payload
port_kinds_built = refl
