use Rattle.std.proofs.Common.{◌≤◌, length}
use Rattle.link_lines_values.specs.Appends.{AppendsAllBut}
use Rattle.link_lines_texts.specs.Captures.{text_lines}
use Rattle.link_lines.specs.MessageLines.{choice_of}
use Rattle.link_lines.specs.Options.{selection_of}
use Rattle.link_lines.proofs.lines.push_lines.Given as goal

abbrev pub invariant-loop-size : goal.invariant-loop-size
invariant-loop-size l = record {
  appends : AppendsAllBut l.fn.out l.out (text_lines (choice_of (selection_of l.fn.options)) l.fn.texts) (text_lines (choice_of (selection_of l.fn.options)) l.rest);
  within : length l.rest ≤ length l.fn.texts;
}

abbrev pub decreases-loop-size : goal.decreases-loop-size
decreases-loop-size l = length l.rest
