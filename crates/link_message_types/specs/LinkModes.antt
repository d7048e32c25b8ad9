-- The numbers and names of the modes of links.
use Rattle.std.specs.Prelude.{ℕ, List, [], ◌∷◌, codes}
use Rattle.std.specs.Fmt.{decimal}
use Rattle.netlink_packet_core.specs.Named.{numbered_by}
use Rattle.link_message_types.specs.declared.mode.LinkMode.{LinkMode}

-- The number and the name of a mode.
abbrev pub link_mode_row : LinkMode → ℕ × List ℕ
link_mode_row LinkMode.Default = (0, codes "default")
link_mode_row LinkMode.Dormant = (1, codes "dormant")
link_mode_row LinkMode.Testing = (2, codes "testing")
link_mode_row (LinkMode.Other n) = (n, decimal n)

-- The modes with a variant of their own.
abbrev pub listed_link_modes : List LinkMode
listed_link_modes = LinkMode.Default ∷ LinkMode.Dormant ∷ LinkMode.Testing ∷ []

-- The number of a mode.
abbrev pub link_mode_number : LinkMode → ℕ
link_mode_number v = (link_mode_row v).0

-- The mode of a number.
abbrev pub link_mode_of : ℕ → LinkMode
link_mode_of n = numbered_by link_mode_number listed_link_modes LinkMode.Other n

-- The display of a mode.
abbrev pub link_mode_text : LinkMode → List ℕ
link_mode_text v = (link_mode_row v).1
