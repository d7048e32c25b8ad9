use Rattle.std.proofs.Common.{◌≡◌, false, sym, ◌∙◌, ap, arith}
use Rattle.std.specs.Prelude.{◌&&◌}
use Rattle.std.proofs.lemmas.Grind.{common_steps}
use Rattle.std.proofs.lemmas.List.Folds.{list_all_at}
use Rattle.netlink_packet_core_grammar.specs.Fits.{attribute_fits}
use Rattle.link_info_devices.specs.MacVlan.{mac_vlan_entry, mac_vlan_fits}
use Rattle.link_info_devices.proofs.Rows.{addresses}
use Rattle.link_info_devices.proofs.mac_vlan.InfoMacVlanNla.+contents_fit.Goals as goal
use Rattle.link_info_devices.proofs.mac_vlan.InfoMacVlanNla.+contents_fit.Goals.{then-length_fits, else-length_fits}

pub returns-then-not-contents_fit : goal.returns-then-not-contents_fit
returns-then-not-contents_fit t c =
    let v = c.inner-item.result in
    let xs = c.deref-inner-items.result.now in
    let a = addresses c.args.self.now c.in-MacAddrData.list xs c.in-MacAddrData.is c.deref-inner-items.ensures.value in
    let not : (attribute_fits (mac_vlan_entry v) && mac_vlan_fits v) ≡ false =
    elim c.if-length_fits.branch [ then-length_fits w ↦ grind (arith, common_steps) | else-length_fits w ↦ grind (arith, common_steps) ] in
    sym (a.fits ∙ list_all_at (λ x. attribute_fits (mac_vlan_entry x) && mac_vlan_fits x) xs c.loop-inner.inner-index v c.loop-inner-test.true (ap (λ x. attribute_fits (mac_vlan_entry x) && mac_vlan_fits x) (sym c.inner-item.is) ∙ not))

pub returns-after-loop-inner : goal.returns-after-loop-inner
returns-after-loop-inner t c =
    let xs = c.deref-inner-items.result.now in
    let a = addresses c.args.self.now c.in-MacAddrData.list xs c.in-MacAddrData.is c.deref-inner-items.ensures.value in
    grind (arith, common_steps)
