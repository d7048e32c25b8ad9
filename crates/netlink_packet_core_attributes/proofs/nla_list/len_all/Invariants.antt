use Rattle.std.proofs.Common.{◌≡◌, take}
use Rattle.netlink_packet_core_grammar.specs.Numbers.{as_usize}
use Rattle.netlink_packet_core_attributes.specs.Lists.{size_by}
use Rattle.netlink_packet_core_attributes.proofs.nla_list.len_all.Given as goal

abbrev pub invariant-loop-item : goal.invariant-loop-item
invariant-loop-item g l = l.size ≡ as_usize (size_by g.N.Nla.entry (take l.item-index l.items))
