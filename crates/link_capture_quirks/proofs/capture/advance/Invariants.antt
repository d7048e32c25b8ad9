use Rattle.std.proofs.Common.{◌≡◌, ◌≤◌, ◌+◌, ◌-◌, ◌++◌, length}
use Rattle.link_capture_quirks.specs.QuirkWalks.{walk_quirks, AreWithin, rest_quirks, rest_fault}
use Rattle.link_capture_quirks.proofs.capture.advance.Given as goal

abbrev pub invariant-frames : goal.invariant-frames
invariant-frames l = record {
  near : l.position ≤ length l.bytes + 3;
  within : AreWithin 0 l.walk.levels.items;
  quirks_left : walk_quirks l.walk.first l.walk.second l.walk.levels.items ++ rest_quirks l.limit l.bytes l.position ≡ walk_quirks l.fn.walk.first l.fn.walk.second l.fn.walk.levels.items ++ rest_quirks l.limit l.bytes l.start;
  fault : rest_fault l.limit l.bytes l.position ≡ rest_fault l.limit l.bytes l.start;
}

abbrev pub decreases-frames : goal.decreases-frames
decreases-frames l = length l.bytes + 3 - l.position
