-- The messages before an offset are shown.
use Rattle.std.proofs.Common.{◌≡◌, ◌+◌, ◌-◌, ◌%◌, ◌≤◌, length}
use Rattle.link_lines.specs.Options.{selection_of}
use Rattle.link_lines.specs.Walks.{Passes, report_in}
use Rattle.link_lines.proofs.messages.push_messages.Given as goal

abbrev pub invariant-messages : goal.invariant-messages
invariant-messages l = record {
  passes : Passes (selection_of l.options) l.limit l.start l.bytes l.from l.len l.fn.out.items l.out.items (report_in l.fn.found) (report_in l.found);
  bound : l.len ≤ length l.bytes + 3;
  frame_start : l.len % 4 ≡ l.from % 4;
}

abbrev pub decreases-messages : goal.decreases-messages
decreases-messages l = length l.bytes + 3 - l.len
