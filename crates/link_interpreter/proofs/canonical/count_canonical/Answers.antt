use Rattle.attribute_tables_grammar.specs.LookUps.{table_row}
use Rattle.link_tables.specs.Rows.{form_of}
use Rattle.link_tables.specs.Tables.{table_of}
use Rattle.link_interpreter.proofs.CanonicalSteps.{passed, shorter}
use Rattle.link_interpreter.proofs.canonical.count_canonical.Goals as goal

pub loop-after-smaller : goal.loop-after-smaller
loop-after-smaller g c = shorter (form_of c.args.form) (table_row g.P.PeerSet.peer (table_of c.args.table.0)) _ _ (c.in-Some.ensures c.args.table c.indexed_rows-rows.ensures)

pub loop-after-preserved : goal.loop-after-preserved
loop-after-preserved g c =
    passed (form_of c.args.form) (table_row g.P.PeerSet.peer (table_of c.args.table.0)) _ _ (c.in-Some.ensures c.args.table c.indexed_rows-rows.ensures)
    c.measures_unfold.ensures c.canonical_lists_unfold.ensures _ _ c.loop-after.invariant
