-- The numbers of IP over InfiniBand.
use Rattle.std.specs.Prelude.{ℕ, List, [], ◌∷◌}
use Rattle.netlink_packet_core.specs.Named.{numbered_by}
use Rattle.link_info_types.specs.declared.ipoib.IpoibMode.{IpoibMode}

-- The number of an IPoIB transport mode.
abbrev pub ipoib_mode_number : IpoibMode → ℕ
ipoib_mode_number IpoibMode.Datagram = 0
ipoib_mode_number IpoibMode.Connected = 1
ipoib_mode_number (IpoibMode.Other n) = n

-- The variants of an IPoIB transport mode, except `Other`, in the order of their numbers.
abbrev pub listed_ipoib_modes : List IpoibMode
listed_ipoib_modes = IpoibMode.Datagram ∷ IpoibMode.Connected ∷ []

-- The IPoIB transport mode with this number.
abbrev pub ipoib_mode_of : ℕ → IpoibMode
ipoib_mode_of n = numbered_by ipoib_mode_number listed_ipoib_modes IpoibMode.Other n
