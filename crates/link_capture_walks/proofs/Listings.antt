-- The attributes of a list.
use Rattle.std.proofs.Common.{◌≡◌, ℕ, ◌+◌, ◌≤◌, List, length, Some, arith}
use Rattle.netlink_packet_core_grammar.specs.Attributes.{Attribute, first_attribute}
use Rattle.netlink_packet_core_grammar.specs.Laws.{FirstIsWithin}

-- the rest of a list is shorter than the list by the header of its first attribute, or more
pub rest_shorter : FirstIsWithin → (bytes : List ℕ) (e : Attribute) (rest : List ℕ) → first_attribute bytes ≡ Some (e, rest) → 4 + length rest ≤ length bytes
rest_shorter w bytes e rest h = omega (arith, w.within bytes e rest h, w.rest_length bytes e rest h)
