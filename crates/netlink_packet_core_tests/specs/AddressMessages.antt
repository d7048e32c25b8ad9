-- Address messages: types and bodies, how they are read, and why a body is rejected.
use Rattle.std.specs.Prelude.{◌≡◌, ◌<◌, ◌&&◌, ◌||◌, ℕ, List, length, Bool, true, false, cond, nat_eq, nat_le, Option}
use Rattle.std.specs.Prelude.{Some, None}
use Rattle.netlink_packet_core.specs.TypedBodies.{TypedBody}
use Rattle.netlink_packet_core_tests.specs.Addresses.{address_text}
use Rattle.netlink_packet_core_tests.specs.declared.address_messages.AddressFault.{AddressFault}
use Rattle.netlink_packet_core_tests.specs.declared.address_messages.AddressMessage.{AddressMessage}

-- The type of a message, and the bytes of its body.
abbrev pub address_entry : AddressMessage → TypedBody
address_entry (AddressMessage.NewAddress a) = (20, address_text a)
address_entry (AddressMessage.DelAddress a) = (21, address_text a)

-- The type is one of an address message, 20 or 21.
abbrev pub is_address_type : ℕ → Bool
is_address_type t = nat_eq t 20 || nat_eq t 21

-- The body is accepted: its type is one of an address message, and it has at least a header.
abbrev pub accepts_address : ℕ → List ℕ → Bool
accepts_address t b = is_address_type t && nat_le 8 (length b)

-- The typed body as which a message is read: its own, if it is accepted.
abbrev pub reads_address : ℕ → List ℕ → Option TypedBody
reads_address t b = cond (accepts_address t b) (Some (t, b)) None

-- The guarantee of an error, other than out of memory, for a type and a body.
abbrev pub address_determines : AddressFault → ℕ → List ℕ → Type 0
address_determines AddressFault.OtherType t b = is_address_type t ≡ false
address_determines AddressFault.Short t b = (is_address_type t ≡ true) × (length b < 8)
address_determines AddressFault.Memory t b = Unit {0}

-- The error is a failed allocation.
abbrev pub is_out_of_memory : AddressFault → Bool
is_out_of_memory AddressFault.Memory = true
is_out_of_memory _ = false
