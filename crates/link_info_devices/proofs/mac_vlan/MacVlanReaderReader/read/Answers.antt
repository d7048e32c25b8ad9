use Rattle.std.proofs.Common.{◌≡◌, sym, ap, ◌∙◌}
use Rattle.netlink_packet_core.specs.AttributeViews.{viewed_attribute, viewed_kind, viewed_payload}
use Rattle.netlink_packet_core.specs.Attributes.{proper_kind}
use Rattle.netlink_packet_core.specs.Families.{attribute, family_row}
use Rattle.netlink_packet_core.specs.NlaBuffers.{storage}
use Rattle.link_info_grammar.specs.Families.{macvlan}
use Rattle.link_info_devices.proofs.Rows.{entry-addresses, fits-addresses, list-written}
use Rattle.link_info_devices.proofs.mac_vlan.MacVlanReaderReader.read.Goals as goal

pub returns-in_ok-list-in-5-clause-written : goal.returns-in_ok-list-in-5-clause-written
returns-in_ok-list-in-5-clause-written c =
    let b = (storage c.args.buf.now).now in
    let list = c.in_ok-list-in-5.list in
    let read = c.in_ok-list-in-5.ensures.written in
    let h : proper_kind (viewed_kind b) ≡ 5 = cc in (
      entry-addresses list ∙ ap (attribute 5) (rw c.value.ensures at read.0) ∙ sym (list-written (viewed_attribute b) h),
      fits-addresses list ∙ (rw c.value.ensures at read.1) ∙ sym (ap (λ k. (family_row macvlan k).rule.fits (viewed_payload b)) h),
    )
