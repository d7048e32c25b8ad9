use Rattle.std.proofs.Common.{arith}
use Rattle.std.proofs.lemmas.Grind.{common_steps}
use Rattle.attribute_tables.proofs.Lists.{length-text_by}
use Rattle.link_info_devices.specs.MacVlan.{mac_vlan_entry}
use Rattle.link_info_devices.proofs.Rows.{entry-addresses}
use Rattle.link_info_devices.proofs.mac_vlan.InfoMacVlanNla.+value_len.Goals as goal

pub returns-after-loop-inner : goal.returns-after-loop-inner
returns-after-loop-inner t c =
    let e = entry-addresses c.in-MacAddrData.list in
    let z = length-text_by mac_vlan_entry c.in-MacAddrData.list.items in
    let k = c.deref-inner-items.ensures.value in
    rw c.in-MacAddrData.is (grind (arith, common_steps))
