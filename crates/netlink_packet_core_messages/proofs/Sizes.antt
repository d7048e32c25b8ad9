-- The length of a message.
use Rattle.std.proofs.Common.{◌≡◌, length, refl, length-append}
use Rattle.netlink_packet_core_messages.specs.declared.message.NetlinkMessage.{NetlinkMessage}
use Rattle.netlink_packet_core_messages.specs.Headers.{header_text}
use Rattle.netlink_packet_core_messages.specs.TypedBodies.{TypedBody}
use Rattle.netlink_packet_core_messages.specs.Payloads.{payload_entry}
use Rattle.netlink_packet_core_messages.specs.Messages.{message_text, message_size}
use Rattle.netlink_packet_core_messages.proofs.Headers.{length-header_text}

pub length-message_text : {A : Type 0} (entry : A → TypedBody) (m : NetlinkMessage A) → length (message_text entry m) ≡ message_size entry m
length-message_text entry m = rw (length-append (header_text m.header) (payload_entry entry m.payload).1, length-header_text m.header) refl

pub ruleset message_sizes = (length-message_text)
