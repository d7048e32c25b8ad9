use Rattle.std.proofs.Common.{◌≡◌, ◌<◌, ◌≤◌, ◌+◌, ◌*◌, ◌^◌, length}
use Rattle.link_capture_walks.specs.Listings.{listing}
use Rattle.link_capture_refusals.specs.Refusals.{list_refusal}
use Rattle.link_capture_refusals.proofs.walk.+refusal.Given as goal

-- the payload of an attribute is shorter than its list
abbrev pub decreases-attribute_refusal : goal.decreases-attribute_refusal
decreases-attribute_refusal l = 6 * length l.attribute.payload.now + 5

abbrev pub decreases-inside_refusal : goal.decreases-inside_refusal
decreases-inside_refusal l = 6 * length l.payload.now + 4

abbrev pub decreases-whole_refusal : goal.decreases-whole_refusal
decreases-whole_refusal l = 6 * length l.payload.now + 3

abbrev pub decreases-peer_refusal : goal.decreases-peer_refusal
decreases-peer_refusal l = 6 * length l.payload.now + 3

abbrev pub decreases-link_refusal : goal.decreases-link_refusal
decreases-link_refusal l = 6 * length l.body.now + 2

abbrev pub decreases-list_refusal : goal.decreases-list_refusal
decreases-list_refusal l = 6 * length l.bytes.now + 1

abbrev pub invariant-list_refusal-loop-list : goal.invariant-list_refusal-loop-list
invariant-list_refusal-loop-list l = record {
  table : l.list.table ≡ l.fn.list.table;
  judged : l.list.judged ≡ l.fn.list.judged;
  within : length l.rest ≤ length l.fn.bytes;
  near : 0 < length l.rest → l.offset + length l.rest < 2 ^ 63;
  so_far : list_refusal (listing l.list) l.offset l.rest ≡ list_refusal (listing l.fn.list) l.fn.offset l.fn.bytes;
}

abbrev pub decreases-list_refusal-loop-list : goal.decreases-list_refusal-loop-list
decreases-list_refusal-loop-list l = length l.rest
