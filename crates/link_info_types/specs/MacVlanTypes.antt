-- The numbers, texts and flags of MACVLAN and MACVTAP.
use Rattle.std.specs.Prelude.{ℕ, List, [], ◌∷◌, codes, Option}
use Rattle.std.specs.Fmt.{decimal}
use Rattle.netlink_packet_core.specs.Named.{numbered_by, named_by}
use Rattle.link_info_types.specs.declared.mac_vlan.MacVlanMode.{MacVlanMode}
use Rattle.link_info_types.specs.declared.mac_vlan.MacVlanFlags.{MacVlanFlags}
use Rattle.link_info_types.specs.declared.mac_vlan.MacVlanMacAddressMode.{MacVlanMacAddressMode}

-- The number and the display of a MACVLAN mode.
abbrev pub mac_vlan_mode_row : MacVlanMode → ℕ × List ℕ
mac_vlan_mode_row MacVlanMode.Private = (1, codes "private")
mac_vlan_mode_row MacVlanMode.Vepa = (2, codes "vepa")
mac_vlan_mode_row MacVlanMode.Bridge = (4, codes "bridge")
mac_vlan_mode_row MacVlanMode.Passthrough = (8, codes "passthru")
mac_vlan_mode_row MacVlanMode.Source = (16, codes "source")
mac_vlan_mode_row (MacVlanMode.Other n) = (n, decimal n)

-- The variants of a MACVLAN mode, except `Other`, in the order of their numbers.
abbrev pub listed_mac_vlan_modes : List MacVlanMode
listed_mac_vlan_modes =
    MacVlanMode.Private ∷ MacVlanMode.Vepa ∷ MacVlanMode.Bridge ∷ MacVlanMode.Passthrough ∷
    MacVlanMode.Source ∷ []

-- The number of a MACVLAN mode.
abbrev pub mac_vlan_mode_number : MacVlanMode → ℕ
mac_vlan_mode_number v = (mac_vlan_mode_row v).0

-- The MACVLAN mode with this number.
abbrev pub mac_vlan_mode_of : ℕ → MacVlanMode
mac_vlan_mode_of n = numbered_by mac_vlan_mode_number listed_mac_vlan_modes MacVlanMode.Other n

-- The display of a MACVLAN mode.
abbrev pub mac_vlan_mode_text : MacVlanMode → List ℕ
mac_vlan_mode_text v = (mac_vlan_mode_row v).1

-- The MACVLAN mode whose display is this text, if there is one.
abbrev pub mac_vlan_mode_named : List ℕ → Option MacVlanMode
mac_vlan_mode_named s = named_by mac_vlan_mode_text listed_mac_vlan_modes s

-- The bits of a set of MACVLAN flags.
abbrev pub mac_vlan_flags_bits : MacVlanFlags → ℕ
mac_vlan_flags_bits f = f.0

-- The MACVLAN flags that have a name, each with its bits.
abbrev pub mac_vlan_flags_table : List (List ℕ × ℕ)
mac_vlan_flags_table =
    (codes "NoPromisc", 1) ∷
    (codes "NoDst", 2) ∷
    []

-- The number of a MACVLAN operation on source addresses.
abbrev pub mac_vlan_mac_address_mode_number : MacVlanMacAddressMode → ℕ
mac_vlan_mac_address_mode_number MacVlanMacAddressMode.Add = 0
mac_vlan_mac_address_mode_number MacVlanMacAddressMode.Del = 1
mac_vlan_mac_address_mode_number MacVlanMacAddressMode.Flush = 2
mac_vlan_mac_address_mode_number MacVlanMacAddressMode.Set = 3
mac_vlan_mac_address_mode_number (MacVlanMacAddressMode.Other n) = n

-- The variants of a MACVLAN operation on source addresses, except `Other`, in the order of their numbers.
abbrev pub listed_mac_vlan_mac_address_modes : List MacVlanMacAddressMode
listed_mac_vlan_mac_address_modes =
    MacVlanMacAddressMode.Add ∷ MacVlanMacAddressMode.Del ∷ MacVlanMacAddressMode.Flush ∷
    MacVlanMacAddressMode.Set ∷ []

-- The MACVLAN operation on source addresses with this number.
abbrev pub mac_vlan_mac_address_mode_of : ℕ → MacVlanMacAddressMode
mac_vlan_mac_address_mode_of n =
    numbered_by mac_vlan_mac_address_mode_number listed_mac_vlan_mac_address_modes
    MacVlanMacAddressMode.Other n
