-- The laws of constants, as the functions of `laws` state them.
use Rattle.std.specs.Prelude.{◌≡◌, ℕ, List, [], ◌∷◌, codes}
use Rattle.link_info_types.specs.IpVlanTypes.{ip_vlan_flags_bits, ip_vlan_flags_table}
use Rattle.link_info_types.specs.MacVlanTypes.{mac_vlan_flags_bits, mac_vlan_flags_table}
use Rattle.link_info_types.specs.NetkitTypes.{netkit_policy_number, netkit_policy_text}
use Rattle.link_info_types.specs.RmNetTypes.{rm_net_flags_bits, rm_net_flags_table}
use Rattle.link_info_types.specs.declared.ipvlan.TheConstants.IpVlanFlags.{Private, Vepa}
use Rattle.link_info_types.specs.declared.mac_vlan.TheConstants.MacVlanFlags.{NoPromisc, NoDst}
use Rattle.link_info_types.specs.declared.netkit.TheConstants.NetkitPolicy.{Forward}
use Rattle.link_info_types.specs.declared.rmnet.TheConstants.RmNetFlags.{IngressDeaggregation, IngressCommands}
use Rattle.link_info_types.specs.declared.rmnet.TheConstants.RmNetFlags.{IngressMapCksumV4, EgressMapCksumV4}
use Rattle.link_info_types.specs.declared.rmnet.TheConstants.RmNetFlags.{IngressMapCksumV5, EgressMapCksumV5}

-- The constants of IPVLAN flags, each with its name and its bits.
abbrev pub ip_vlan_flags_constants : List (List ℕ × ℕ)
ip_vlan_flags_constants =
    (codes "Private", ip_vlan_flags_bits Private) ∷
    (codes "Vepa", ip_vlan_flags_bits Vepa) ∷
    []

-- The constants of MACVLAN flags, each with its name and its bits.
abbrev pub mac_vlan_flags_constants : List (List ℕ × ℕ)
mac_vlan_flags_constants =
    (codes "NoPromisc", mac_vlan_flags_bits NoPromisc) ∷
    (codes "NoDst", mac_vlan_flags_bits NoDst) ∷
    []

-- The constants of RMNET flags, each with its name and its bits.
abbrev pub rm_net_flags_constants : List (List ℕ × ℕ)
rm_net_flags_constants =
    (codes "IngressDeaggregation", rm_net_flags_bits IngressDeaggregation) ∷
    (codes "IngressCommands", rm_net_flags_bits IngressCommands) ∷
    (codes "IngressMapCksumV4", rm_net_flags_bits IngressMapCksumV4) ∷
    (codes "EgressMapCksumV4", rm_net_flags_bits EgressMapCksumV4) ∷
    (codes "IngressMapCksumV5", rm_net_flags_bits IngressMapCksumV5) ∷
    (codes "EgressMapCksumV5", rm_net_flags_bits EgressMapCksumV5) ∷
    []

-- The constant of each flag has the bits of its name in the table, and the alias of a netkit policy has that policy's
-- number and display: forward, which is NETKIT_PASS of linux/if_link.h.
pub record ConstantsAreNamed : Type 0 where
  pub flags_of_ipvlan : ip_vlan_flags_constants ≡ ip_vlan_flags_table
  pub flags_of_macvlan : mac_vlan_flags_constants ≡ mac_vlan_flags_table
  pub flags_of_rmnet : rm_net_flags_constants ≡ rm_net_flags_table
  pub forward_number : netkit_policy_number Forward ≡ 0
  pub forward_text : netkit_policy_text Forward ≡ codes "forward"
