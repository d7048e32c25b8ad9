use Rattle.std.proofs.Common.{ap, ◌∙◌}
use Rattle.link_tables.proofs.Built.{built, dense}
use Rattle.link_tables.specs.Rows.{are_dense, build}
use Rattle.link_tables.specs.Tables.{info_payload, table_of}
use Rattle.link_tables.proofs.table.indexed_rows.Goals as goal

pub new-requires : goal.new-requires
new-requires c = ap are_dense c.table_at.ensures ∙ dense c.args.table.0

pub returns : goal.returns
returns c = record {
  indexed = c.new.ensures.indexed;
  built = ap (build table_of info_payload) (c.new.ensures.rows ∙ c.table_at.ensures) ∙ built c.args.table.0;
}
