-- The measure so far, plus that of the rest, is the measure of the whole. If the flag is set, the whole is already
-- canonical if the rest is, and the canonical prefix goes up to the rest.
use Rattle.std.proofs.Common.{◌≡◌, true, length, drop, ◌+◌, ◌-◌, ◌*◌, ◌≤◌}
use Rattle.attribute_tables_grammar.specs.Lists.{no_kind_in_force, any, list_rule}
use Rattle.attribute_tables_grammar.specs.AlreadyCanonical.{CanonicalSoFar}
use Rattle.attribute_tables_grammar.specs.Walks.{MeasuredSoFar, IsWalked}
use Rattle.link_tables.specs.Rows.{form_of}
use Rattle.link_interpreter.specs.Prefixes.{IsCanonicalPrefix}
use Rattle.link_interpreter.specs.Measures.{view, rows_of, info_names}
use Rattle.link_tables.specs.InForce.{in_force}
use Rattle.link_tables.specs.Tables.{table_of}
use Rattle.link_interpreter.proofs.measure.+measure.Given as goal

-- the bytes passed to a list are shorter than the list
abbrev pub decreases-measure_held : goal.decreases-measure_held
decreases-measure_held g l = 4 * length l.bytes.now + 3

abbrev pub decreases-measure_inside : goal.decreases-measure_inside
decreases-measure_inside g l = 4 * length l.bytes.now + 2

abbrev pub decreases-walk_list : goal.decreases-walk_list
decreases-walk_list g l = 4 * length l.bytes.now + 1

abbrev pub decreases-measure_first : goal.decreases-measure_first
decreases-measure_first g l = 4 * length l.bytes.now

abbrev pub invariant-walk_list-loop-rest : goal.invariant-walk_list-loop-rest
invariant-walk_list-loop-rest g l = record {
  walked : IsWalked (form_of l.form) l.fn.bytes;
  so_far : MeasuredSoFar (form_of l.form) (rows_of g.P.PeerSet.peer (table_of l.fn.table.0)) l.fn.bytes (view l.total) no_kind_in_force l.rest;
  already_canonical : l.total.is_canonical ≡ true → CanonicalSoFar (form_of l.form) (rows_of g.P.PeerSet.peer (table_of l.fn.table.0)) l.fn.bytes no_kind_in_force l.rest;
  prefix : IsCanonicalPrefix (list_rule any (rows_of g.P.PeerSet.peer (table_of l.fn.table.0))) l.fn.bytes (length l.fn.bytes - l.left);
  offset : l.total.is_canonical ≡ true → drop (length l.fn.bytes - l.left) l.fn.bytes ≡ l.rest;
  left : l.left ≤ length l.fn.bytes;
  within : l.total.text_len + 77 * length l.rest ≤ 77 * length l.fn.bytes;
  few : 4 * l.total.attributes + length l.rest ≤ length l.fn.bytes;
}

abbrev pub decreases-walk_list-loop-rest : goal.decreases-walk_list-loop-rest
decreases-walk_list-loop-rest g l = length l.rest

abbrev pub invariant-measure_info-loop-rest : goal.invariant-measure_info-loop-rest
invariant-measure_info-loop-rest g l = record {
  so_far : MeasuredSoFar any (info_names g.P.PeerSet.peer) l.bytes (view l.total) (in_force l.force) l.rest;
  already_canonical : l.total.is_canonical ≡ true → CanonicalSoFar any (info_names g.P.PeerSet.peer) l.bytes (in_force l.force) l.rest;
  within : l.total.text_len + 77 * length l.rest ≤ 77 * length l.bytes;
  few : 4 * l.total.attributes + length l.rest ≤ length l.bytes;
}

abbrev pub decreases-measure_info-loop-rest : goal.decreases-measure_info-loop-rest
decreases-measure_info-loop-rest g l = length l.rest

abbrev pub decreases-measure_link_info : goal.decreases-measure_link_info
decreases-measure_link_info g l = 4 * length l.bytes.now + 1

abbrev pub decreases-measure_info : goal.decreases-measure_info
decreases-measure_info g l = 4 * length l.bytes.now
