-- Messages of one address family with equal texts are equal.
use Rattle.std.proofs.Common.{◌≡◌, ℕ, List, ◌∷◌, ◌++◌, drop, refl, sym, ap, ◌∙◌, subst, All}
use Rattle.std.proofs.lemmas.Bool.{and_from}
use Rattle.netlink_packet_core_grammar.specs.Numbers.{le2, le4}
use Rattle.link_message_types.specs.AddressFamilies.{address_family_number, table_family}
use Rattle.link_message_types.specs.Headers.{link_header_bytes}
use Rattle.link_message_types.proofs.Numbers.{layer_types_are_named}
use Rattle.link_message_types.specs.LinkFlagTypes.{link_flags_bits}
use Rattle.link_message_types.specs.LinkLayerTypes.{link_layer_type_number, link_layer_type_of}
use Rattle.link_message_types.specs.declared.header.LinkHeader.{LinkHeader}
use Rattle.link_message_types.specs.declared.link_flag.LinkFlags.{LinkFlags}
use Rattle.link_message_types.specs.contracts.header.LinkHeaderPartialEq.TheImpl as header_equality
use Rattle.link_message_types.specs.contracts.header.LinkHeaderEq.TheImpl.Laws as header_laws
use Rattle.link_message_attributes.specs.LinkAttributes.{link_attribute_entry, link_attribute_names_row}
use Rattle.link_message.specs.EqualTexts.{EqualTextsMeanEqualMessages}
use Rattle.link_message.proofs.Records.{number_4_equal, after_4_equal, number_2_equal, after_2_equal}
use Rattle.link_message.proofs.Lists.{lists_injective}
use Rattle.link_message.proofs.Attributes.{attribute_injective}

-- A header, followed by other bytes.
with_header : LinkHeader → List ℕ → List ℕ
with_header h t = address_family_number h.interface_family ∷ 0 ∷ le2 (link_layer_type_number h.link_layer_type) ++ (le4 h.index ++ (le4 (link_flags_bits h.flags) ++ (le4 (link_flags_bits h.change_mask) ++ t)))

with_header_is : (h : LinkHeader) (t : List ℕ) → link_header_bytes h ++ t ≡ with_header h t
unfolding link_header_bytes with_header le2 le4
with_header_is h t = refl

flags_injective : (f g : LinkFlags) → f.0 ≡ g.0 → f ≡ g
flags_injective f g e = λ i. record f { 0 = e i }

pub record OneHeader (h k : LinkHeader) (t u : List ℕ) : Type 0 where
  pub header : h ≡ k
  pub rest : t ≡ u

pub header_injective : (h k : LinkHeader) (t u : List ℕ) → h.interface_family ≡ k.interface_family → link_header_bytes h ++ t ≡ link_header_bytes k ++ u → OneHeader h k t u
unfolding with_header
header_injective h k t u f e =
    let e0 = ap (drop 2) (sym (with_header_is h t) ∙ e ∙ with_header_is k u) in
    let l = number_2_equal (link_layer_type_number h.link_layer_type) (link_layer_type_number k.link_layer_type) _ _ e0 in
    let layer = sym (layer_types_are_named h.link_layer_type) ∙ ap link_layer_type_of l ∙ layer_types_are_named k.link_layer_type in
    let e1 = after_2_equal (link_layer_type_number h.link_layer_type) (link_layer_type_number k.link_layer_type) _ _ e0 in
    let index = number_4_equal h.index k.index _ _ e1 in
    let e2 = after_4_equal h.index k.index _ _ e1 in
    let flags = flags_injective h.flags k.flags (number_4_equal (link_flags_bits h.flags) (link_flags_bits k.flags) _ _ e2) in
    let e3 = after_4_equal (link_flags_bits h.flags) (link_flags_bits k.flags) _ _ e2 in
    let mask = flags_injective h.change_mask k.change_mask (number_4_equal (link_flags_bits h.change_mask) (link_flags_bits k.change_mask) _ _ e3) in
    record {
      header = λ i. record { interface_family = f i; link_layer_type = layer i; index = index i; flags = flags i; change_mask = mask i };
      rest = after_4_equal (link_flags_bits h.change_mask) (link_flags_bits k.change_mask) _ _ e3;
    }

pub messages_injective : EqualTextsMeanEqualMessages
messages_injective m n f p q e =
    let h = header_injective m.header n.header _ _ f e in
    let family = table_family m.header.interface_family in
    let q' = subst (λ a. All (link_attribute_names_row (table_family a)) n.attributes.items) (sym f) q in
    and_from _ _
    (ap ((header_equality.ghosts).eq m.header) (sym h.header) ∙ header_laws.laws-law.refl m.header)
    (lists_injective _ link_attribute_entry (link_attribute_names_row family) (attribute_injective family) m.attributes.items n.attributes.items p q' h.rest)
