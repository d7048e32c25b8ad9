use Rattle.std.proofs.Common.{◌≡◌, take, true}
use Rattle.netlink_packet_core.specs.Lists.{all_fit_by}
use Rattle.link_info_devices.specs.MacVlan.{mac_vlan_entry, mac_vlan_fits}
use Rattle.link_info_devices.proofs.mac_vlan.InfoMacVlanNla.+contents_fit.Given as goal

abbrev pub invariant-loop-inner : goal.invariant-loop-inner
invariant-loop-inner l = all_fit_by mac_vlan_entry mac_vlan_fits (take l.inner-index l.inner-items) ≡ true
