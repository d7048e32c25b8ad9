-- the rest of the capture has the rest of the numbers, and the first fault
use Rattle.std.proofs.Common.{◌≡◌, ◌+◌, ◌-◌, ◌≤◌, length, drop}
use Rattle.link_capture_grammar.specs.Captures.{first_fault, shifted, texts}
use Rattle.link_capture_grammar.specs.Numbers.{attribute_count, frame_count}
use Rattle.link_message_grammar.specs.Body.{link_body}
use Rattle.link_capture_checks.proofs.capture.measure.Given as goal

abbrev pub invariant-loop-at : goal.invariant-loop-at
invariant-loop-at l = record {
  near : l.at ≤ length l.bytes + 3;
  fault : first_fault link_body l.limit l.bytes ≡ shifted l.at (first_fault link_body l.limit (drop l.at l.bytes));
  frames : frame_count link_body l.limit l.bytes ≡ l.measure.frames + frame_count link_body l.limit (drop l.at l.bytes);
  few : l.measure.frames ≤ l.at;
  attributes : attribute_count link_body l.limit l.bytes ≡ l.measure.attributes + attribute_count link_body l.limit (drop l.at l.bytes);
  text_len : length (texts link_body l.limit l.bytes) ≡ l.measure.text_len + length (texts link_body l.limit (drop l.at l.bytes));
}

abbrev pub decreases-loop-at : goal.decreases-loop-at
decreases-loop-at l = length l.bytes - l.at
