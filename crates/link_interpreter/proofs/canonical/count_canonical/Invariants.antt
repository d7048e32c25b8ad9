-- The attributes passed so far are canonical values.
use Rattle.std.proofs.Common.{length}
use Rattle.attribute_tables_grammar.specs.LookUps.{table_row}
use Rattle.link_tables.specs.Rows.{form_of}
use Rattle.link_tables.specs.Tables.{table_of}
use Rattle.link_interpreter.specs.Prefixes.{PassesCanonical}
use Rattle.link_interpreter.proofs.canonical.count_canonical.Given as goal

abbrev pub invariant-loop-after : goal.invariant-loop-after
invariant-loop-after g l = PassesCanonical (form_of l.form) (table_row g.P.PeerSet.peer (table_of l.fn.table.0)) l.fn.bytes l.count l.rest

abbrev pub decreases-loop-after : goal.decreases-loop-after
decreases-loop-after g l = length l.rest
