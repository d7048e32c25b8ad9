-- The settings appended so far are those that are requested among the first i.
use Rattle.std.proofs.Common.{◌≡◌, ◌≤◌, take}
use Rattle.link_message_nested.specs.InetSettings.{requested_from, requested_so_far}
use Rattle.link_message_nested.proofs.inet.Request.new.Given as goal

abbrev pub invariant-loop-index : goal.invariant-loop-index
invariant-loop-index l = record {
  capacity : l.request.count ≤ l.index;
  requested : requested_so_far l.request ≡ requested_from 1 (take l.index l.asked.values);
}
