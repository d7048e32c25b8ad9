use Rattle.link_interpreter.proofs.tables.find.Goals as goal

pub returns : goal.returns
returns g c = c.find_in.ensures c.args.table c.indexed_rows.ensures
