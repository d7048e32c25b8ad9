-- what was read of both, and that both sides have passed legal frames of it, whose texts are equal
use Rattle.std.proofs.Common.{◌≡◌, ◌<◌, ◌≤◌, ◌-◌, ◌^◌, ℕ, List, length, take, None}
use Rattle.link_capture_grammar.specs.Captures.{texts}
use Rattle.link_capture_reader.specs.States.{source_state}
use Rattle.link_capture_comparing.specs.Readings.{HasRead}
use Rattle.link_capture_comparing.specs.Sides.{state_of, offset_of, HasPassedFrames}
use Rattle.link_capture_grammar.specs.Body.{link_body}
use Rattle.link_capture_comparing.proofs.sources.part.Given as goal

abbrev pub invariant-frames : goal.invariant-frames
invariant-frames g l = record {
  left_inside : length (state_of l.left).window ≤ l.left.read;
  left_counted : l.left.read < 2 ^ 64;
  left_unjudged : l.left.fault ≡ None;
  left_limit : l.left.limit ≡ l.limit;
  right_inside : length (state_of l.right).window ≤ l.right.read;
  right_counted : l.right.read < 2 ^ 64;
  right_unjudged : l.right.fault ≡ None;
  right_limit : l.right.limit ≡ l.limit;
  so_far : (a b : List ℕ)
      × HasRead (source_state g.S.Source.to_come g.S.Source.failures g.S.Source.ends_reported l.fn.left_source) (source_state g.S.Source.to_come g.S.Source.failures g.S.Source.ends_reported l.left_source) l.left.ended l.left.read a
      × HasRead (source_state g.T.Source.to_come g.T.Source.failures g.T.Source.ends_reported l.fn.right_source) (source_state g.T.Source.to_come g.T.Source.failures g.T.Source.ends_reported l.right_source) l.right.ended l.right.read b
      × HasPassedFrames (state_of l.left) a × HasPassedFrames (state_of l.right) b
      × (texts link_body l.limit (take (offset_of (state_of l.left)) a) ≡ texts link_body l.limit (take (offset_of (state_of l.right)) b));
}

abbrev pub decreases-frames : goal.decreases-frames
decreases-frames g l = 2 ^ 64 - offset_of (state_of l.left)
