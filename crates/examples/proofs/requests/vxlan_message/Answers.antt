use Rattle.std.proofs.Common.{◌≡◌, [], ◌∷◌, ◌++◌, refl, sym, ap, ◌∙◌}
use Rattle.netlink_packet_core.specs.Attributes.{list_text, zeros}
use Rattle.netlink_packet_core.specs.Families.{attribute}
use Rattle.netlink_packet_core.specs.Lists.{text_by, all_fit_by}
use Rattle.netlink_packet_core.specs.Numbers.{le4}
use Rattle.link_info.specs.LinkInfo.{link_info_entry, link_info_fits}
use Rattle.link_message.specs.LinkAttributes.{link_attribute_entry, link_attribute_fits}
use Rattle.link_message.specs.LinkFlagTypes.{link_flags_bits}
use Rattle.link_message.specs.AddressFamily.{AddressFamily}
use Rattle.link_message.specs.LinkHeader.{LinkHeader}
use Rattle.link_message.specs.LinkLayerType.{LinkLayerType}
use Rattle.examples.proofs.RequestFrames.{all_three, header_of_zeros, name_fits}
use Rattle.examples.specs.Requests.{vxlan_info_text}
use Rattle.examples.proofs.requests.vxlan_message.Goals as goal

pub returns-clause-text : goal.returns-clause-text
returns-clause-text c =
    let h : LinkHeader = record {
      interface_family = AddressFamily.Unspec;
      link_layer_type = LinkLayerType.Netrom;
      index = 0;
      flags = c.empty.result;
      change_mask = c.empty-2.result;
    } in
    let flags : link_flags_bits c.empty.result ≡ 0 = c.empty.ensures tt in
    let change_mask : link_flags_bits c.empty-2.result ≡ 0 = c.empty-2.ensures tt in
    let mtu = attribute 4 (le4 c.args.mtu) in
    let info = text_by link_info_entry c.in_ok-info.info.items in
    ap (λ x. x ++ text_by link_attribute_entry c.in_ok-attributes.attributes.items) (header_of_zeros h refl refl refl flags change_mask)
    ∙ ap (λ vs. zeros 16 ++ text_by link_attribute_entry vs) c.in_ok-attributes.ensures.items
    ∙ ap (λ s. zeros 16 ++ list_text (attribute 3 (s ++ 0 ∷ []) ∷ mtu ∷ attribute 18 info ∷ [])) c.in_ok-name.ensures.ok
    ∙ ap (λ i. zeros 16 ++ list_text (attribute 3 (c.args.name.now ++ 0 ∷ []) ∷ mtu ∷ attribute 18 i ∷ [])) c.in_ok-info.ensures.text

pub returns-clause-fits : goal.returns-clause-fits
returns-clause-fits c =
    let info = c.in_ok-info.info.items in
    let inside = all_fit_by link_info_entry link_info_fits info in
    let e =
    ap (λ vs. all_fit_by link_attribute_entry link_attribute_fits vs) c.in_ok-attributes.ensures.items
    ∙ ap (λ s. all_three s c.args.mtu (text_by link_info_entry info) inside) c.in_ok-name.ensures.ok
    ∙ ap (λ i. all_three c.args.name.now c.args.mtu i inside) c.in_ok-info.ensures.text
    ∙ ap (λ b. all_three c.args.name.now c.args.mtu (vxlan_info_text c.args.vni) b) c.in_ok-info.ensures.fits in
    let n = name_fits c.args.name.now c.args.mtu c.args.vni in
    ((λ h. n.0 (sym e ∙ h)), (λ h. e ∙ n.1 h))
