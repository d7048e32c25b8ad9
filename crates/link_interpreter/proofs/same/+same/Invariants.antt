-- The rests of the two lists are equivalent if and only if the lists are.
use Rattle.std.proofs.Common.{◌≡◌, ◌+◌, ◌*◌, ◌≤◌, length}
use Rattle.attribute_tables_grammar.specs.Lists.{no_kind_in_force, list_rule, any}
use Rattle.attribute_tables_grammar.specs.Sameness.{same_rests}
use Rattle.link_tables.specs.Rows.{form_of}
use Rattle.link_interpreter.specs.Measures.{rows_of, info_names}
use Rattle.link_tables.specs.InForce.{in_force}
use Rattle.link_tables.specs.Tables.{table_of}
use Rattle.link_interpreter.proofs.same.+same.Given as goal

-- the bytes passed to a list are shorter than the list
abbrev pub decreases-same_held : goal.decreases-same_held
decreases-same_held g l = 3 * length l.left.now + 2

abbrev pub decreases-same_list : goal.decreases-same_list
decreases-same_list g l = 3 * length l.left.now + 1

abbrev pub decreases-same_first : goal.decreases-same_first
decreases-same_first g l = 3 * length l.left.now

abbrev pub invariant-same_list-loop-a : goal.invariant-same_list-loop-a
invariant-same_list-loop-a g l = record {
  so_far : same_rests (form_of l.form) (rows_of g.P.PeerSet.peer (table_of l.table.0)) no_kind_in_force l.rest l.other ≡ (list_rule (form_of l.form) (rows_of g.P.PeerSet.peer (table_of l.table.0))).same l.fn.left l.fn.right;
  within : length l.rest ≤ length l.fn.left;
}

abbrev pub decreases-same_list-loop-a : goal.decreases-same_list-loop-a
decreases-same_list-loop-a g l = length l.rest

abbrev pub invariant-same_info-loop-rest : goal.invariant-same_info-loop-rest
invariant-same_info-loop-rest g l = record {
  so_far : same_rests any (info_names g.P.PeerSet.peer) (in_force l.force) l.rest l.other ≡ (list_rule any (info_names g.P.PeerSet.peer)).same l.fn.left l.fn.right;
  within : length l.rest ≤ length l.fn.left;
}

abbrev pub decreases-same_info-loop-rest : goal.decreases-same_info-loop-rest
decreases-same_info-loop-rest g l = length l.rest

abbrev pub decreases-same_link_info : goal.decreases-same_link_info
decreases-same_link_info g l = 3 * length l.left.now + 1

abbrev pub decreases-same_info : goal.decreases-same_info
decreases-same_info g l = 3 * length l.left.now

abbrev pub decreases-same_in_force : goal.decreases-same_in_force
decreases-same_in_force g l = 3 * length l.left.payload.now + 3
