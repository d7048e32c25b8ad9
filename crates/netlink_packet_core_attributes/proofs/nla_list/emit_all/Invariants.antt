use Rattle.std.proofs.Common.{◌≡◌, ◌++◌, length, take, drop}
use Rattle.netlink_packet_core_attributes.specs.Lists.{text_by, size_by}
use Rattle.netlink_packet_core_attributes.proofs.nla_list.emit_all.Given as goal

abbrev pub invariant-loop-item : goal.invariant-loop-item
invariant-loop-item g l = record {
  offset : l.at ≡ size_by g.N.Nla.entry (take l.item-index l.items);
  whole : length (text_by g.N.Nla.entry (take l.item-index l.items)) ≡ l.at;
  text : l.buffer ≡ text_by g.N.Nla.entry (take l.item-index l.items) ++ drop l.at l.initial.buffer;
}
