-- Records that consist of fields, one after the other.
use Rattle.std.specs.Prelude.{ℕ, zero, suc, List, ◌++◌}
use Rattle.netlink_packet_core.specs.Attributes.{zeros}

-- The bytes of fields, followed by n zeros: without zeros, the same by computation.
abbrev pub with_zeros : ℕ → List ℕ → List ℕ
with_zeros zero bytes = bytes
with_zeros (suc n) bytes = bytes ++ zeros (suc n)
