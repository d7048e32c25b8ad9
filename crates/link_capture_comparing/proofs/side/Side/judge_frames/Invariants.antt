-- what was read, and that the side has passed legal frames of it
use Rattle.std.proofs.Common.{◌≡◌, ◌<◌, ◌≤◌, ◌-◌, ◌^◌, ℕ, List, length, true, None}
use Rattle.link_capture_reader.specs.States.{SourceState, source_state}
use Rattle.link_capture_comparing.specs.Readings.{HasRead}
use Rattle.link_capture_comparing.specs.Sides.{state_of, offset_of, HasPassedFrames, Extends}
use Rattle.link_capture_comparing.proofs.side.Side.judge_frames.Given as goal

abbrev pub invariant-frames : goal.invariant-frames
invariant-frames g l = record {
  inside : length (state_of l.self).window ≤ l.self.read;
  counted : l.self.read < 2 ^ 64;
  unjudged : l.self.fault ≡ None;
  limit : l.self.limit ≡ l.fn.self.limit;
  ended : l.fn.self.ended ≡ true → l.self.ended ≡ true;
  so_far : (initial : SourceState) (s : List ℕ) → HasRead initial (source_state g.S.Source.to_come g.S.Source.failures g.S.Source.ends_reported l.fn.source) l.fn.self.ended l.fn.self.read s → HasPassedFrames (state_of l.fn.self) s →
      (t : List ℕ) × Extends l.fn.self.ended s t × HasRead initial (source_state g.S.Source.to_come g.S.Source.failures g.S.Source.ends_reported l.source) l.self.ended l.self.read t × HasPassedFrames (state_of l.self) t;
}

abbrev pub decreases-frames : goal.decreases-frames
decreases-frames g l = 2 ^ 64 - offset_of (state_of l.self)
