-- A written address message is read back.
use Rattle.std.proofs.Common.{◌≡◌, ◌≤◌, ℕ, Some, refl, arith}
use Rattle.std.specs.Prelude.{length, nat_le, true}
use Rattle.std.proofs.lemmas.Bool.Decides.{nat_tests}
use Rattle.netlink_packet_core.specs.Numbers.{le4}
use Rattle.netlink_packet_core.specs.TypedBodies.{IsInner}
use Rattle.netlink_packet_core_tests.specs.Addresses.{header_text, address_text}
use Rattle.netlink_packet_core_tests.specs.declared.address_messages.Address.{Address}
use Rattle.netlink_packet_core_tests.specs.declared.address_messages.AddressMessage.{AddressMessage}
use Rattle.netlink_packet_core_tests.specs.AddressMessages.{address_entry, reads_address}

-- A body has at least the 8 bytes of a header.
has_header : (a : Address) → 8 ≤ length (address_text a)
unfolding header_text le4
has_header a = omega arith

-- The decision of `8 ≤ n`.
is_accepted : (n : ℕ) → 8 ≤ n → nat_le 8 n ≡ true
is_accepted n h = grind (arith, nat_tests)

-- The bytes of a message are read as the message.
pub round_trip : (x : AddressMessage) → reads_address (address_entry x).0 (address_entry x).1 ≡ Some (address_entry x)
round_trip (AddressMessage.NewAddress a) = rw (is_accepted (length (address_text a)) (has_header a)) refl
round_trip (AddressMessage.DelAddress a) = rw (is_accepted (length (address_text a)) (has_header a)) refl

-- Address messages are no control messages.
pub address_inner : (x : AddressMessage) → IsInner (address_entry x).0
address_inner (AddressMessage.NewAddress a) h = omega arith
address_inner (AddressMessage.DelAddress a) h = omega arith
