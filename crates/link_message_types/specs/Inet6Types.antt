-- The numbers, names and flags of IPv6.
use Rattle.std.specs.Prelude.{ℕ, List, [], ◌∷◌, codes}
use Rattle.std.specs.Fmt.{decimal}
use Rattle.netlink_packet_core.specs.Named.{numbered_by}
use Rattle.link_message_types.specs.declared.inet6.Inet6IfaceFlags.{Inet6IfaceFlags}
use Rattle.link_message_types.specs.declared.inet6.In6AddrGenMode.{In6AddrGenMode}

-- The number and the name of a mode.
abbrev pub in_6_addr_gen_mode_row : In6AddrGenMode → ℕ × List ℕ
in_6_addr_gen_mode_row In6AddrGenMode.Eui64 = (0, codes "eui64")
in_6_addr_gen_mode_row In6AddrGenMode.None = (1, codes "none")
in_6_addr_gen_mode_row In6AddrGenMode.StablePrivacy = (2, codes "stable-privacy")
in_6_addr_gen_mode_row In6AddrGenMode.Random = (3, codes "random")
in_6_addr_gen_mode_row (In6AddrGenMode.Other n) = (n, decimal n)

-- The modes with a variant of their own.
abbrev pub listed_in_6_addr_gen_modes : List In6AddrGenMode
listed_in_6_addr_gen_modes =
    In6AddrGenMode.Eui64 ∷
    In6AddrGenMode.None ∷
    In6AddrGenMode.StablePrivacy ∷
    In6AddrGenMode.Random ∷
    []

-- The number of a mode.
abbrev pub in_6_addr_gen_mode_number : In6AddrGenMode → ℕ
in_6_addr_gen_mode_number v = (in_6_addr_gen_mode_row v).0

-- The mode of a number.
abbrev pub in_6_addr_gen_mode_of : ℕ → In6AddrGenMode
in_6_addr_gen_mode_of n = numbered_by in_6_addr_gen_mode_number listed_in_6_addr_gen_modes In6AddrGenMode.Other n

-- The display of a mode.
abbrev pub in_6_addr_gen_mode_text : In6AddrGenMode → List ℕ
in_6_addr_gen_mode_text v = (in_6_addr_gen_mode_row v).1

-- The bits of a set of flags.
abbrev pub inet_6_iface_flags_bits : Inet6IfaceFlags → ℕ
inet_6_iface_flags_bits f = f.0

-- The flags that have a name, each with its bits.
abbrev pub inet_6_iface_flags_table : List (List ℕ × ℕ)
inet_6_iface_flags_table =
    (codes "RsSent", 0x10) ∷
    (codes "RaReceived", 0x20) ∷
    (codes "Managed", 0x40) ∷
    (codes "OtherConf", 0x80) ∷
    (codes "Ready", 0x80000000) ∷
    []
