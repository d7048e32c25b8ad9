use Rattle.std.proofs.Common.{refl, ◌∙◌}
use Rattle.link_lines_values.proofs.RowIndexes.{none_below, found_at, none_past}
use Rattle.link_lines_values.proofs.dense_rows.look_up.Goals as goal

pub returns-then-kind-first : goal.returns-then-kind-first
returns-then-kind-first g c = none_below c.args.rows.now _ _ c.args.kind refl c.requires c.if-kind-first.true

pub returns-then-index-rows : goal.returns-then-index-rows
returns-then-index-rows g c = c.as_ref.ensures.value ∙ found_at c.args.rows.now _ _ _ c.args.kind refl c.requires c.if-kind-first.false c.if-index-rows.true

pub returns-else-index-rows : goal.returns-else-index-rows
returns-else-index-rows g c = none_past c.args.rows.now _ _ c.args.kind refl c.requires c.if-kind-first.false c.if-index-rows.false
