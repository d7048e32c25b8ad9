-- The texts of messages that callers build.
use Rattle.std.proofs.Common.{◌≡◌, List, [], ◌∷◌, ◌++◌, refl, sym, ap, ◌∙◌, append_assoc, append-nil}
use Rattle.netlink_packet_core.specs.Attributes.{Attribute, attribute_text, list_text, zeros}
use Rattle.netlink_packet_core.specs.Lists.{text_by}
use Rattle.netlink_packet_core.specs.Numbers.{le2, le4}
use Rattle.link_message.specs.AddressFamilies.{address_family_number}
use Rattle.link_message.specs.ExtentMasks.{joined_extent_masks}
use Rattle.link_message.specs.Headers.{link_header_bytes}
use Rattle.link_message.specs.LinkFlagTypes.{link_flags_bits}
use Rattle.link_message.specs.LinkLayerTypes.{link_layer_type_number}
use Rattle.link_message_types.specs.declared.ext_mask.LinkExtentMask.{LinkExtentMask}
use Rattle.link_message_types.specs.declared.header.LinkHeader.{LinkHeader}

-- One more attribute at the end.
pub text-more : {V : Type 0} (entry : V → Attribute) (vs : List V) (v : V) → text_by entry (vs ++ v ∷ []) ≡ text_by entry vs ++ attribute_text (entry v)
unfolding list_text
text-more entry [] v = append-nil (attribute_text (entry v))
text-more entry (w ∷ vs) v = ap (λ r. attribute_text (entry w) ++ r) (text-more entry vs v) ∙ sym (append_assoc (attribute_text (entry w)) (text_by entry vs) (attribute_text (entry v)))

-- A header of zeros.
pub header_of_zeros : (h : LinkHeader) → address_family_number h.interface_family ≡ 0 → link_layer_type_number h.link_layer_type ≡ 0 → h.index ≡ 0 → link_flags_bits h.flags ≡ 0 → link_flags_bits h.change_mask ≡ 0 → link_header_bytes h ≡ zeros 16
unfolding link_header_bytes le2 le4
header_of_zeros h f l i g m = rw (f, l, i, g, m) refl

pub without_statistics : le4 (joined_extent_masks (LinkExtentMask.SkipStats ∷ [])) ≡ 8 ∷ 0 ∷ 0 ∷ 0 ∷ []
unfolding le4
without_statistics = refl
