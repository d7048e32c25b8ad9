-- the frames before `at` are legal, and their texts are written
use Rattle.std.proofs.Common.{◌≡◌, ◌≤◌, ◌++◌, ◌-◌, length, take, vec_capacity}
use Rattle.link_capture_grammar.specs.Captures.{texts}
use Rattle.link_capture_reader.specs.Walks.{IsLegalUpTo}
use Rattle.link_capture_grammar.specs.Body.{link_body}
use Rattle.link_capture_reader.proofs.frames.push_frames.Given as goal

abbrev pub invariant-loop-at : goal.invariant-loop-at
invariant-loop-at l = record {
  passed : IsLegalUpTo l.limit l.bytes l.at;
  capacity : vec_capacity l.fn.out ≤ vec_capacity l.out;
  written : l.out.items ≡ l.fn.out.items ++ texts link_body l.limit (take l.at l.bytes);
}

abbrev pub decreases-loop-at : goal.decreases-loop-at
decreases-loop-at l = length l.bytes - l.at
