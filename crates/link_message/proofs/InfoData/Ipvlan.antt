-- Values of `IpVlanData` with equal attributes are equal.
use Rattle.std.proofs.Common.{[], ◌∷◌, refl, Option, ℕ, Fits}
use denote.Param.{number}
use Rattle.std.specs.Int.{w16}
use Rattle.netlink_packet_core.specs.Attributes.{Attribute}
use Rattle.attribute_tables_grammar.specs.LookUps.{line_at}
use Rattle.link_info_grammar.specs.Families.{ipvlan}
use Rattle.link_info_devices.specs.declared.ipvlan.IpVlanData.{IpVlanData}
use Rattle.link_info_devices.specs.declared.ipvlan.IpVlanData.TheVariants as IpVlan
use Rattle.link_info_types.specs.IpVlanTypes.{ip_vlan_mode_of}
use Rattle.link_info_devices.specs.Ipvlan.{ipvlan_entry, ipvlan_is_row_variant}
use Rattle.link_info_devices.specs.contracts.ipvlan.IpVlanDataPartialEq.TheImpl as equality
use Rattle.link_info_devices.specs.contracts.ipvlan.IpVlanDataEq.TheImpl.Laws.{laws-law}
use Rattle.link_message.specs.Injective.{IsInjective}
use Rattle.link_message.proofs.Decoders.{RoundTrip, injective_by, value_of, round_trips, le2_of}

-- The value that an attribute encodes.
abbrev value : (n : ℕ) → Attribute → Option (IpVlanData n)
value n = value_of (line_at ipvlan) IpVlan.Other (
    (1, λ p. IpVlan.Mode (ip_vlan_mode_of (le2_of p))) ∷
    (2, λ p. IpVlan.Flags (record { 0 = le2_of p })) ∷ [])

round_trip : (n : ℕ) → RoundTrip ipvlan_entry ipvlan_is_row_variant (value n)
round_trip n (IpVlan.Other a) h = rw h refl
round_trip n v h = simp round_trips cc

pub ipvlan_injective : (n : ℕ) → Fits w16 n → IsInjective (equality.ghosts (number n)).eq ipvlan_entry ipvlan_is_row_variant
ipvlan_injective n f = injective_by _ (laws-law n f).refl _ _ (value n) (round_trip n)
