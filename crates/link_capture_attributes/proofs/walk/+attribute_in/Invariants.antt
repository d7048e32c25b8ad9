use Rattle.std.proofs.Common.{◌≡◌, ◌<◌, ◌≤◌, ◌+◌, ◌^◌, length}
use Rattle.link_capture_attributes.specs.Attributes.{first_from, list_attributes}
use Rattle.link_capture_attributes.specs.AttributeViews.{level_of}
use Rattle.link_capture_attributes.proofs.walk.+attribute_in.Given as goal

-- the payload of an attribute is shorter than its list
abbrev pub decreases-attribute_in : goal.decreases-attribute_in
decreases-attribute_in l = length l.bytes.now

abbrev pub invariant-attributes : goal.invariant-attributes
invariant-attributes l = record {
  table : l.level.list.table ≡ l.fn.level.list.table;
  judged : l.level.list.judged ≡ l.fn.level.list.judged;
  depth : l.level.depth ≡ l.fn.level.depth;
  within : length l.rest ≤ length l.fn.bytes;
  near : 0 < length l.rest → l.offset + length l.rest < 2 ^ 63;
  so_far : first_from l.position (list_attributes (level_of l.level) l.offset l.rest) ≡ first_from l.fn.position (list_attributes (level_of l.fn.level) l.fn.offset l.fn.bytes);
}

abbrev pub decreases-attributes : goal.decreases-attributes
decreases-attributes l = length l.rest
