use Rattle.link_tables.proofs.Built.{bounded}
use Rattle.link_tables.proofs.table.tables_are_bounded.Goals as goal

pub returns : goal.returns
returns c = bounded
