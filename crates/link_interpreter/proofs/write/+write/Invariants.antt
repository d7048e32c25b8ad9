-- The output so far, followed by the encoding of the rest, is the old output followed by the encoding of the whole; and
-- the output has the capacity for it.
use Rattle.std.proofs.Common.{length, ◌+◌, ◌*◌, ◌≤◌, vec_capacity}
use Rattle.attribute_tables_grammar.specs.Lists.{no_kind_in_force, any}
use Rattle.attribute_tables_grammar.specs.Writing.{WrittenSoFar}
use Rattle.link_tables.specs.Rows.{form_of}
use Rattle.link_interpreter.specs.Measures.{rows_of, info_names}
use Rattle.link_tables.specs.InForce.{in_force}
use Rattle.link_tables.specs.Tables.{table_of}
use Rattle.link_interpreter.proofs.write.+write.Given as goal

-- the bytes passed to a list are shorter than the list
abbrev pub decreases-write_held : goal.decreases-write_held
decreases-write_held g l = 4 * length l.bytes.now + 3

abbrev pub decreases-write_inside : goal.decreases-write_inside
decreases-write_inside g l = 4 * length l.bytes.now + 2

abbrev pub decreases-write_list : goal.decreases-write_list
decreases-write_list g l = 4 * length l.bytes.now + 1

abbrev pub decreases-write_first : goal.decreases-write_first
decreases-write_first g l = 4 * length l.bytes.now

abbrev pub decreases-write_attribute : goal.decreases-write_attribute
decreases-write_attribute g l = 4 * length l.payload.now + 4

abbrev pub invariant-write_list-loop-rest : goal.invariant-write_list-loop-rest
invariant-write_list-loop-rest g l = record {
  so_far : WrittenSoFar (form_of l.form) (rows_of g.P.PeerSet.peer (table_of l.fn.table.0)) l.fn.bytes l.fn.out.items l.out.items no_kind_in_force l.rest;
  capacity : vec_capacity l.fn.out ≤ vec_capacity l.out;
  within : length l.rest ≤ length l.fn.bytes;
}

abbrev pub decreases-write_list-loop-rest : goal.decreases-write_list-loop-rest
decreases-write_list-loop-rest g l = length l.rest

abbrev pub invariant-write_info-loop-rest : goal.invariant-write_info-loop-rest
invariant-write_info-loop-rest g l = record {
  so_far : WrittenSoFar any (info_names g.P.PeerSet.peer) l.bytes l.fn.out.items l.out.items (in_force l.force) l.rest;
  capacity : vec_capacity l.fn.out ≤ vec_capacity l.out;
  within : length l.rest ≤ length l.fn.bytes;
}

abbrev pub decreases-write_info-loop-rest : goal.decreases-write_info-loop-rest
decreases-write_info-loop-rest g l = length l.rest

abbrev pub decreases-write_link_info : goal.decreases-write_link_info
decreases-write_link_info g l = 4 * length l.bytes.now + 1

abbrev pub decreases-write_info : goal.decreases-write_info
decreases-write_info g l = 4 * length l.bytes.now
