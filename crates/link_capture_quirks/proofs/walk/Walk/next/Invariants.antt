use Rattle.std.proofs.Common.{◌≡◌}
use Rattle.link_capture_quirks.specs.QuirkWalks.{walk_quirks, AreWithin, weight}
use Rattle.link_capture_quirks.proofs.walk.Walk.next.Given as goal

abbrev pub invariant-lists : goal.invariant-lists
invariant-lists l = record {
  within : AreWithin 0 l.self.levels.items;
  quirks_left : walk_quirks l.self.first l.self.second l.self.levels.items ≡ walk_quirks l.fn.self.first l.fn.self.second l.fn.self.levels.items;
}

abbrev pub decreases-lists : goal.decreases-lists
decreases-lists l = weight l.self.levels.items
