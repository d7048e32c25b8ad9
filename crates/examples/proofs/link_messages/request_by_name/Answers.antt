use Rattle.std.proofs.Common.{◌≡◌, ◌++◌, [], ◌∷◌, IfOk, ap, refl, subst, ◌∙◌}
use Rattle.std.specs.Prelude.{string_bytes}
use Rattle.netlink_packet_core.specs.Attributes.{list_text, zeros}
use Rattle.netlink_packet_core.specs.Families.{attribute}
use Rattle.netlink_packet_core.specs.Lists.{text_by}
use Rattle.netlink_packet_core.specs.Numbers.{le4}
use Rattle.link_message.specs.ExtentMasks.{joined_extent_masks}
use Rattle.link_message.specs.Headers.{link_header_bytes}
use Rattle.link_message.specs.LinkAttributes.{link_attribute_entry}
use Rattle.link_message.specs.LinkFlagTypes.{link_flags_bits}
use Rattle.link_message_types.specs.declared.address_family.AddressFamily.{AddressFamily}
use Rattle.link_message_types.specs.declared.header.LinkHeader.{LinkHeader}
use Rattle.link_message_types.specs.declared.link_layer_type.LinkLayerType.{LinkLayerType}
use Rattle.examples.specs.NamedRequests.{request_text}
use Rattle.examples.proofs.MessageTexts.{header_of_zeros, without_statistics}
use Rattle.examples.proofs.link_messages.request_by_name.Goals as goal

pub returns : goal.returns
returns c =
    let h : LinkHeader = record {
      interface_family = AddressFamily.Unspec;
      link_layer_type = LinkLayerType.Netrom;
      index = 0;
      flags = c.empty.result;
      change_mask = c.empty-2.result;
    } in
    let flags : link_flags_bits c.empty.result ≡ 0 = c.empty.ensures tt in
    let change_mask : link_flags_bits c.empty-2.result ≡ 0 = c.empty-2.ensures tt in
    let name = string_bytes c.in_ok-name.name in
    let mask : le4 (joined_extent_masks c.in_ok-mask.mask.items) ≡ 8 ∷ 0 ∷ 0 ∷ 0 ∷ [] = ap (λ ms. le4 (joined_extent_masks ms)) c.in_ok-mask.ensures.items ∙ without_statistics in
    let t : link_header_bytes h ++ text_by link_attribute_entry c.in_ok-vec.field-0.items ≡ request_text c.args.name.now =
    ap (λ x. x ++ text_by link_attribute_entry c.in_ok-vec.field-0.items) (header_of_zeros h refl refl refl flags change_mask)
    ∙ ap (λ vs. zeros 16 ++ text_by link_attribute_entry vs) c.in_ok-vec.ensures.items
    ∙ ap (λ p. zeros 16 ++ list_text (attribute 29 p ∷ attribute 3 (name ++ 0 ∷ []) ∷ [])) mask
    ∙ ap (λ s. zeros 16 ++ list_text (attribute 29 (8 ∷ 0 ∷ 0 ∷ 0 ∷ []) ∷ attribute 3 (s ++ 0 ∷ []) ∷ [])) c.in_ok-name.ensures.ok in
    subst (λ x. IfOk c.written.result (λ bytes. bytes.items ≡ x)) t c.written.ensures
