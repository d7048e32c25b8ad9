use Rattle.std.proofs.Common.{◌≤◌, length}
use Rattle.link_lines_values.specs.Appends.{AppendsAllBut}
use Rattle.link_lines_raw.specs.Lines.{lines_text}
use Rattle.link_lines_raw.specs.Lists.{listed_lines}
use Rattle.link_lines_raw.specs.Views.{listed_of}
use Rattle.link_lines_raw.proofs.raw.+push_listed.Given as goal

abbrev pub decreases-push_listed : goal.decreases-push_listed
decreases-push_listed l = length l.bytes.now

abbrev pub invariant-loop-part : goal.invariant-loop-part
invariant-loop-part l = record {
  within : length l.rest ≤ length l.fn.bytes;
  appends : AppendsAllBut l.fn.out l.out (lines_text (listed_lines l.fn.level (listed_of (λ b. b.now) l.fn.listed) l.fn.bytes))
      (lines_text (listed_lines l.level (listed_of (λ b. b.now) l.listed) l.rest));
}

abbrev pub decreases-loop-part : goal.decreases-loop-part
decreases-loop-part l = length l.rest
