-- What was read, followed by the reading of the rest in the context in force, is the reading of the whole.
use Rattle.std.proofs.Common.{◌≤◌, length}
use Rattle.link_info.specs.LinkInfo.{context_of}
use Rattle.link_info.proofs.InfoReading.{State}
use Rattle.link_info.proofs.infos.LinkInfo.read_list.Given as goal

abbrev pub invariant-loop-force : goal.invariant-loop-force
invariant-loop-force g l = record {
  state : State g.R.PeerRule.peer l.bytes l.list.items (context_of l.force.kind l.force.port_kind) l.rest;
  within : length l.rest ≤ length l.bytes;
}

abbrev pub decreases-loop-force : goal.decreases-loop-force
decreases-loop-force g l = length l.rest
