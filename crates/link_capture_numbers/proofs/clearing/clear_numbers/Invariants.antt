use Rattle.std.proofs.Common.{◌≡◌, ◌≤◌, ◌-◌, ◌++◌, take, drop, length}
use Rattle.link_capture_numbers.specs.Cleared.{numbers_cleared}
use Rattle.link_capture_numbers.proofs.clearing.clear_numbers.Given as goal

-- the bytes before the offset are cleared, and those after it are unchanged
abbrev pub invariant-frames : goal.invariant-frames
invariant-frames l = record {
  inside : l.at ≤ length l.text;
  size : length l.text ≡ length l.fn.text;
  done : take l.at l.text ++ numbers_cleared (drop l.at l.text) ≡ numbers_cleared l.fn.text;
}

abbrev pub decreases-frames : goal.decreases-frames
decreases-frames l = length l.text - l.at
