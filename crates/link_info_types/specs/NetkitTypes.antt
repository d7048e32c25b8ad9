-- The numbers and texts of NETKIT.
use Rattle.std.specs.Prelude.{ℕ, List, [], ◌∷◌, codes, Option}
use Rattle.std.specs.Fmt.{decimal}
use Rattle.netlink_packet_core.specs.Named.{numbered_by, named_by}
use Rattle.link_info_types.specs.declared.netkit.NetkitMode.{NetkitMode}
use Rattle.link_info_types.specs.declared.netkit.NetkitPolicy.{NetkitPolicy}
use Rattle.link_info_types.specs.declared.netkit.NetkitScrub.{NetkitScrub}

-- The number and the display of a netkit mode.
abbrev pub netkit_mode_row : NetkitMode → ℕ × List ℕ
netkit_mode_row NetkitMode.L2 = (0, codes "l2")
netkit_mode_row NetkitMode.L3 = (1, codes "l3")
netkit_mode_row (NetkitMode.Other n) = (n, decimal n)

-- The variants of a netkit mode, except `Other`, in the order of their numbers.
abbrev pub listed_netkit_modes : List NetkitMode
listed_netkit_modes = NetkitMode.L2 ∷ NetkitMode.L3 ∷ []

-- The number of a netkit mode.
abbrev pub netkit_mode_number : NetkitMode → ℕ
netkit_mode_number v = (netkit_mode_row v).0

-- The netkit mode with this number.
abbrev pub netkit_mode_of : ℕ → NetkitMode
netkit_mode_of n = numbered_by netkit_mode_number listed_netkit_modes NetkitMode.Other n

-- The display of a netkit mode.
abbrev pub netkit_mode_text : NetkitMode → List ℕ
netkit_mode_text v = (netkit_mode_row v).1

-- The netkit mode whose display is this text, if there is one.
abbrev pub netkit_mode_named : List ℕ → Option NetkitMode
netkit_mode_named s = named_by netkit_mode_text listed_netkit_modes s

-- The number and the display of a netkit policy.
abbrev pub netkit_policy_row : NetkitPolicy → ℕ × List ℕ
netkit_policy_row NetkitPolicy.Pass = (0, codes "forward")
netkit_policy_row NetkitPolicy.Drop = (2, codes "blackhole")
netkit_policy_row NetkitPolicy.Redirect = (7, codes "redirect")
netkit_policy_row (NetkitPolicy.Other n) = (n, decimal n)

-- The variants of a netkit policy, except `Other`, in the order of their numbers.
abbrev pub listed_netkit_policies : List NetkitPolicy
listed_netkit_policies = NetkitPolicy.Pass ∷ NetkitPolicy.Drop ∷ NetkitPolicy.Redirect ∷ []

-- The number of a netkit policy.
abbrev pub netkit_policy_number : NetkitPolicy → ℕ
netkit_policy_number v = (netkit_policy_row v).0

-- The netkit policy with this number.
abbrev pub netkit_policy_of : ℕ → NetkitPolicy
netkit_policy_of n = numbered_by netkit_policy_number listed_netkit_policies NetkitPolicy.Other n

-- The display of a netkit policy.
abbrev pub netkit_policy_text : NetkitPolicy → List ℕ
netkit_policy_text v = (netkit_policy_row v).1

-- The netkit policy whose display is this text, if there is one.
abbrev pub netkit_policy_named : List ℕ → Option NetkitPolicy
netkit_policy_named s = named_by netkit_policy_text listed_netkit_policies s

-- The number and the display of a netkit scrub setting.
abbrev pub netkit_scrub_row : NetkitScrub → ℕ × List ℕ
netkit_scrub_row NetkitScrub.None = (0, codes "none")
netkit_scrub_row NetkitScrub.Default = (1, codes "default")

-- The variants of a netkit scrub setting.
abbrev pub listed_netkit_scrubs : List NetkitScrub
listed_netkit_scrubs = NetkitScrub.None ∷ NetkitScrub.Default ∷ []

-- The number of a netkit scrub setting.
abbrev pub netkit_scrub_number : NetkitScrub → ℕ
netkit_scrub_number v = (netkit_scrub_row v).0

-- The netkit scrub setting with this number: every number except 0 is the default.
abbrev pub netkit_scrub_of : ℕ → NetkitScrub
netkit_scrub_of n =
    numbered_by netkit_scrub_number listed_netkit_scrubs (λ _. NetkitScrub.Default) n

-- The display of a netkit scrub setting.
abbrev pub netkit_scrub_text : NetkitScrub → List ℕ
netkit_scrub_text v = (netkit_scrub_row v).1

-- The netkit scrub setting whose display is this text, if there is one.
abbrev pub netkit_scrub_named : List ℕ → Option NetkitScrub
netkit_scrub_named s = named_by netkit_scrub_text listed_netkit_scrubs s
