use Rattle.std.proofs.Common.{◌≡◌, true, drop}
use Rattle.link_tables.specs.Names.{held_by_name, names_fit}
use Rattle.link_tables.proofs.names.find_name.Given as goal

abbrev pub invariant-loop-row : goal.invariant-loop-row
invariant-loop-row l = record {
  rest : held_by_name (drop l.row-index l.rows) l.name ≡ held_by_name l.rows l.name;
  fit : names_fit (drop l.row-index l.rows) ≡ true;
}
