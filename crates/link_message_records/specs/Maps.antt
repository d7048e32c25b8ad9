-- The memory map of a device (if_link.h, struct rtnl_link_ifmap).
use Rattle.std.specs.Prelude.{ℕ, List, [], ◌∷◌, ◌++◌}
use Rattle.netlink_packet_core.specs.Attributes.{zeros}
use Rattle.netlink_packet_core.specs.Numbers.{le2, le8}
use Rattle.link_message_records.specs.declared.map.Map.{Map}

-- The bytes of a map: three numbers of 8 bytes, one of 2, two of 1, and zeros.
abbrev pub map_bytes : Map → List ℕ
map_bytes v =
    (le8 v.memory_start ++ (le8 v.memory_end ++
    (le8 v.base_address ++ (le2 v.irq ++ ((v.dma ∷ []) ++ (v.port ∷ [])))))) ++ zeros 4
