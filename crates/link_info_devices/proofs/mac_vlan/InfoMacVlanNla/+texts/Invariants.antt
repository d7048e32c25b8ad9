use Rattle.std.proofs.Common.{◌≡◌, ◌++◌, length, take, drop}
use Rattle.netlink_packet_core.specs.Lists.{text_by, size_by}
use Rattle.link_info_devices.specs.MacVlan.{mac_vlan_entry}
use Rattle.link_info_devices.proofs.mac_vlan.InfoMacVlanNla.+texts.Given as goal

abbrev pub invariant-emit_value-loop-inner : goal.invariant-emit_value-loop-inner
invariant-emit_value-loop-inner l = record {
  offset : l.at ≡ size_by mac_vlan_entry (take l.inner-index l.inner-items);
  whole : length (text_by mac_vlan_entry (take l.inner-index l.inner-items)) ≡ l.at;
  text : l.buffer ≡ text_by mac_vlan_entry (take l.inner-index l.inner-items) ++ drop l.at l.initial.buffer;
}
