-- The numbers, texts and flags of IPVLAN and IPVTAP.
use Rattle.std.specs.Prelude.{ℕ, List, [], ◌∷◌, codes, Option}
use Rattle.std.specs.Fmt.{decimal}
use Rattle.netlink_packet_core.specs.Named.{numbered_by, named_by}
use Rattle.link_info_types.specs.declared.ipvlan.IpVlanMode.{IpVlanMode}
use Rattle.link_info_types.specs.declared.ipvlan.IpVlanFlags.{IpVlanFlags}

-- The number and the display of an IPVLAN mode.
abbrev pub ip_vlan_mode_row : IpVlanMode → ℕ × List ℕ
ip_vlan_mode_row IpVlanMode.L2 = (0, codes "l2")
ip_vlan_mode_row IpVlanMode.L3 = (1, codes "l3")
ip_vlan_mode_row IpVlanMode.L3S = (2, codes "l3s")
ip_vlan_mode_row (IpVlanMode.Other n) = (n, decimal n)

-- The variants of an IPVLAN mode, except `Other`, in the order of their numbers.
abbrev pub listed_ip_vlan_modes : List IpVlanMode
listed_ip_vlan_modes = IpVlanMode.L2 ∷ IpVlanMode.L3 ∷ IpVlanMode.L3S ∷ []

-- The number of an IPVLAN mode.
abbrev pub ip_vlan_mode_number : IpVlanMode → ℕ
ip_vlan_mode_number v = (ip_vlan_mode_row v).0

-- The IPVLAN mode with this number.
abbrev pub ip_vlan_mode_of : ℕ → IpVlanMode
ip_vlan_mode_of n = numbered_by ip_vlan_mode_number listed_ip_vlan_modes IpVlanMode.Other n

-- The display of an IPVLAN mode.
abbrev pub ip_vlan_mode_text : IpVlanMode → List ℕ
ip_vlan_mode_text v = (ip_vlan_mode_row v).1

-- The IPVLAN mode whose display is this text, if there is one.
abbrev pub ip_vlan_mode_named : List ℕ → Option IpVlanMode
ip_vlan_mode_named s = named_by ip_vlan_mode_text listed_ip_vlan_modes s

-- The bits of a set of IPVLAN flags.
abbrev pub ip_vlan_flags_bits : IpVlanFlags → ℕ
ip_vlan_flags_bits f = f.0

-- The IPVLAN flags that have a name, each with its bits.
abbrev pub ip_vlan_flags_table : List (List ℕ × ℕ)
ip_vlan_flags_table =
    (codes "Private", 0x01) ∷
    (codes "Vepa", 0x02) ∷
    []
