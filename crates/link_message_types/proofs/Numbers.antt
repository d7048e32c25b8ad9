-- The value of a number has that number.
use Rattle.std.proofs.Common.{◌≡◌, ℕ, Bool, true, false, List, [], ◌∷◌, refl, sym}
use Rattle.std.specs.Prelude.{◌==◌, if◌then◌else◌}
use Rattle.std.proofs.lemmas.Bool.{eqb-true}
use Rattle.netlink_packet_core_grammar.specs.Named.{numbered_by}
use Rattle.link_message_types.specs.AddressFamilies.{address_family_number, listed_address_families}
use Rattle.link_message_types.specs.declared.address_family.AddressFamily.{AddressFamily}
use Rattle.link_message_types.specs.Events.{link_event_number, listed_link_events}
use Rattle.link_message_types.specs.declared.event.LinkEvent.{LinkEvent}
use Rattle.link_message_types.specs.ExtentMasks.{link_extent_mask_number, listed_link_extent_masks}
use Rattle.link_message_types.specs.declared.ext_mask.LinkExtentMask.{LinkExtentMask}
use Rattle.link_message_types.specs.LinkModes.{link_mode_number, listed_link_modes}
use Rattle.link_message_types.specs.declared.mode.LinkMode.{LinkMode}
use Rattle.link_message_types.specs.LinkStates.{state_number, listed_states}
use Rattle.link_message_types.specs.declared.link_state.State.{State}
use Rattle.link_message_types.specs.Inet6Types.{in_6_addr_gen_mode_number, listed_in_6_addr_gen_modes}
use Rattle.link_message_types.specs.declared.inet6.In6AddrGenMode.{In6AddrGenMode}
use Rattle.link_message_types.specs.MctpTypes.{mctp_phys_binding_number, listed_mctp_phys_bindings}
use Rattle.link_message_types.specs.declared.mctp.MctpPhysBinding.{MctpPhysBinding}
use Rattle.link_message_types.specs.VfTypes.{vf_link_state_number, listed_vf_link_states}
use Rattle.link_message_types.specs.declared.vf.VfLinkState.{VfLinkState}
use Rattle.link_message_types.specs.VlanTypes.{vlan_protocol_number, listed_vlan_protocols}
use Rattle.link_message_types.specs.declared.vlan.VlanProtocol.{VlanProtocol}
use Rattle.link_message_types.specs.XdpTypes.{xdp_attached_number, listed_xdp_attachments}
use Rattle.link_message_types.specs.declared.xdp.XdpAttached.{XdpAttached}
use Rattle.link_message_types.specs.LinkLayerTypes.{link_layer_type_of}
use Rattle.link_message_types.specs.declared.link_layer_type.LinkLayerType.TheVariants as Layer
use Rattle.link_message_types.specs.Laws.{NumbersAreKept, LayerTypesAreNamed}

module _ {V : Type 0} (number : V → ℕ) (other : ℕ → V) (is_other : (n : ℕ) → number (other n) ≡ n) where
  first_or : (n : ℕ) (v w : V) (t : Bool) → (n == number v) ≡ t → number w ≡ n → number (if t then v else w) ≡ n
  first_or n v w true h k = sym (eqb-true n (number v) h)
  first_or n v w false h k = k

  kept : (vs : List V) (n : ℕ) → number (numbered_by number vs other n) ≡ n
  kept [] n = is_other n
  kept (v ∷ vs) n = first_or n v (numbered_by number vs other n) (n == number v) refl (kept vs n)

pub numbers_are_kept : NumbersAreKept
numbers_are_kept = record {
  address_families = kept address_family_number AddressFamily.Other (λ n. refl) listed_address_families;
  events = kept link_event_number LinkEvent.Other (λ n. refl) listed_link_events;
  masks = kept link_extent_mask_number LinkExtentMask.Other (λ n. refl) listed_link_extent_masks;
  modes = kept link_mode_number LinkMode.Other (λ n. refl) listed_link_modes;
  states = kept state_number State.Other (λ n. refl) listed_states;
  generated_addresses = kept in_6_addr_gen_mode_number In6AddrGenMode.Other (λ n. refl) listed_in_6_addr_gen_modes;
  bindings = kept mctp_phys_binding_number MctpPhysBinding.Other (λ n. refl) listed_mctp_phys_bindings;
  states_of_functions = kept vf_link_state_number VfLinkState.Other (λ n. refl) listed_vf_link_states;
  vlan_protocols = kept vlan_protocol_number VlanProtocol.Other (λ n. refl) listed_vlan_protocols;
  attached_programs = kept xdp_attached_number XdpAttached.Other (λ n. refl) listed_xdp_attachments;
}

pub layer_types_are_named : LayerTypesAreNamed
unfolding link_layer_type_of
layer_types_are_named Layer.Netrom = refl
layer_types_are_named layer = refl
