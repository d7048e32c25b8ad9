-- The laws of number types, of constants and of the header, which the functions of `laws` have as contracts.
use Rattle.std.specs.Prelude.{◌≡◌, ℕ, ◌<◌, ◌^◌, List, [], ◌∷◌, codes, length}
use Rattle.link_message_types.specs.AddressFamilies.{address_family_number, address_family_of}
use Rattle.link_message_types.specs.Events.{link_event_number, link_event_of}
use Rattle.link_message_types.specs.ExtentMasks.{joined_extent_masks, link_extent_mask_number, link_extent_mask_of}
use Rattle.link_message_types.specs.ExtentMasks.{link_extent_masks_of}
use Rattle.link_message_types.specs.Headers.{link_header_bytes}
use Rattle.link_message_types.specs.Inet6Types.{in_6_addr_gen_mode_number, in_6_addr_gen_mode_of}
use Rattle.link_message_types.specs.Inet6Types.{inet_6_iface_flags_bits, inet_6_iface_flags_table}
use Rattle.link_message_types.specs.LinkFlagTypes.{link_flags_bits, link_flags_table}
use Rattle.link_message_types.specs.LinkLayerTypes.{link_layer_type_number, link_layer_type_of}
use Rattle.link_message_types.specs.LinkModes.{link_mode_number, link_mode_of}
use Rattle.link_message_types.specs.LinkStates.{state_number, state_of}
use Rattle.link_message_types.specs.MctpTypes.{mctp_phys_binding_number, mctp_phys_binding_of}
use Rattle.link_message_types.specs.VfTypes.{vf_link_state_number, vf_link_state_of}
use Rattle.link_message_types.specs.VlanTypes.{vlan_protocol_number, vlan_protocol_of}
use Rattle.link_message_types.specs.XdpTypes.{xdp_attached_number, xdp_attached_of}
use Rattle.link_message_types.specs.declared.header.LinkHeader.{LinkHeader}
use Rattle.link_message_types.specs.declared.inet6.TheConstants.Inet6IfaceFlags.{RsSent, RaReceived, Managed, OtherConf}
use Rattle.link_message_types.specs.declared.inet6.TheConstants.Inet6IfaceFlags.{Ready}
use Rattle.link_message_types.specs.declared.link_flag.TheConstants.LinkFlags.{Up, Broadcast, Debug, Loopback}
use Rattle.link_message_types.specs.declared.link_flag.TheConstants.LinkFlags.{Pointopoint, Notrailers, Running, Noarp}
use Rattle.link_message_types.specs.declared.link_flag.TheConstants.LinkFlags.{Promisc, Allmulti, Controller, Port}
use Rattle.link_message_types.specs.declared.link_flag.TheConstants.LinkFlags.{Multicast, Portsel, Automedia, Dynamic}
use Rattle.link_message_types.specs.declared.link_flag.TheConstants.LinkFlags.{LowerUp, Dormant, Echo}
use Rattle.link_message_types.specs.declared.link_layer_type.LinkLayerType.{LinkLayerType}
use Rattle.link_message_types.specs.declared.link_layer_type.TheConstants.LinkLayerType.{Cisco}

-- The value of each number has that number.
abbrev pub Keeps : {V : Type 0} → (V → ℕ) → (ℕ → V) → Type 0
Keeps number of = (n : ℕ) → number (of n) ≡ n

-- A number is converted to a value and back without change, for address families and each number type.
pub record NumbersAreKept : Type 0 where
  pub address_families : Keeps address_family_number address_family_of
  pub events : Keeps link_event_number link_event_of
  pub masks : Keeps link_extent_mask_number link_extent_mask_of
  pub modes : Keeps link_mode_number link_mode_of
  pub states : Keeps state_number state_of
  pub generated_addresses : Keeps in_6_addr_gen_mode_number in_6_addr_gen_mode_of
  pub bindings : Keeps mctp_phys_binding_number mctp_phys_binding_of
  pub states_of_functions : Keeps vf_link_state_number vf_link_state_of
  pub vlan_protocols : Keeps vlan_protocol_number vlan_protocol_of
  pub attached_programs : Keeps xdp_attached_number xdp_attached_of

-- A number of 4 bytes is read as a list of masks and joined to the same number.
abbrev pub MasksAreKept : Type 0
MasksAreKept = (n : ℕ) → n < 2 ^ 32 → joined_extent_masks (link_extent_masks_of n) ≡ n

-- A layer type is converted to its number and back without change.
abbrev pub LayerTypesAreNamed : Type 0
LayerTypesAreNamed = (t : LinkLayerType) → link_layer_type_of (link_layer_type_number t) ≡ t

-- A header is written as 16 bytes.
abbrev pub HeadersAreSixteenBytes : Type 0
HeadersAreSixteenBytes = (h : LinkHeader) → length (link_header_bytes h) ≡ 16

-- The constants of a link's flags, each after its name.
abbrev pub link_flags_constants : List (List ℕ × ℕ)
link_flags_constants =
    (codes "Up", link_flags_bits Up) ∷
    (codes "Broadcast", link_flags_bits Broadcast) ∷
    (codes "Debug", link_flags_bits Debug) ∷
    (codes "Loopback", link_flags_bits Loopback) ∷
    (codes "Pointopoint", link_flags_bits Pointopoint) ∷
    (codes "Notrailers", link_flags_bits Notrailers) ∷
    (codes "Running", link_flags_bits Running) ∷
    (codes "Noarp", link_flags_bits Noarp) ∷
    (codes "Promisc", link_flags_bits Promisc) ∷
    (codes "Allmulti", link_flags_bits Allmulti) ∷
    (codes "Controller", link_flags_bits Controller) ∷
    (codes "Port", link_flags_bits Port) ∷
    (codes "Multicast", link_flags_bits Multicast) ∷
    (codes "Portsel", link_flags_bits Portsel) ∷
    (codes "Automedia", link_flags_bits Automedia) ∷
    (codes "Dynamic", link_flags_bits Dynamic) ∷
    (codes "LowerUp", link_flags_bits LowerUp) ∷
    (codes "Dormant", link_flags_bits Dormant) ∷
    (codes "Echo", link_flags_bits Echo) ∷
    []

-- The constants of an IPv6 interface's flags, each after its name.
abbrev pub inet_6_iface_flags_constants : List (List ℕ × ℕ)
inet_6_iface_flags_constants =
    (codes "RsSent", inet_6_iface_flags_bits RsSent) ∷
    (codes "RaReceived", inet_6_iface_flags_bits RaReceived) ∷
    (codes "Managed", inet_6_iface_flags_bits Managed) ∷
    (codes "OtherConf", inet_6_iface_flags_bits OtherConf) ∷
    (codes "Ready", inet_6_iface_flags_bits Ready) ∷
    []

-- The constant of each flag has the bits that are beside its name in the table, and the alias of a layer type is that
-- type: ARPHRD_CISCO of linux/if_arp.h is ARPHRD_HDLC.
pub record ConstantsAreNamed : Type 0 where
  pub flags_of_links : link_flags_constants ≡ link_flags_table
  pub flags_of_interfaces : inet_6_iface_flags_constants ≡ inet_6_iface_flags_table
  pub cisco : Cisco ≡ LinkLayerType.Hdlc
