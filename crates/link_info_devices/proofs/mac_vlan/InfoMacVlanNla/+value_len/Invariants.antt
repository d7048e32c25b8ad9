use Rattle.std.proofs.Common.{◌≡◌, take}
use Rattle.netlink_packet_core.specs.Lists.{size_by}
use Rattle.netlink_packet_core.specs.Numbers.{as_usize}
use Rattle.link_info_devices.specs.MacVlan.{mac_vlan_entry}
use Rattle.link_info_devices.proofs.mac_vlan.InfoMacVlanNla.+value_len.Given as goal

abbrev pub invariant-loop-inner : goal.invariant-loop-inner
invariant-loop-inner l = l.size ≡ as_usize (size_by mac_vlan_entry (take l.inner-index l.inner-items))
