-- Whole messages: a header and a payload.
use Rattle.std.specs.Prelude.{◌≡◌, ℕ, ◌+◌, List, ◌++◌, length, take, drop, Option, None, option_map, cond}
use Rattle.netlink_packet_core_grammar.specs.Numbers.{le4}
use Rattle.netlink_packet_core_grammar.specs.Frames.{frame_type, frame_body, begins_with_frame}
use Rattle.netlink_packet_core_messages.specs.declared.message.NetlinkMessage.{NetlinkMessage}
use Rattle.netlink_packet_core_messages.specs.Headers.{header_of, header_text}
use Rattle.netlink_packet_core_messages.specs.Payloads.{payload_value, payload_entry, read_payload}
use Rattle.netlink_packet_core_messages.specs.TypedBodies.{TypedBody}

-- The message with the value of its inner message in its stead.
abbrev pub message_value : {A B : Type 0} → (A → B) → NetlinkMessage A → NetlinkMessage B
message_value value m = record { header = m.header; payload = payload_value value m.payload }

-- The message of the frame at the start of the bytes, if the frame is whole and accepted.
abbrev pub read_message : {V : Type 0} → (ℕ → List ℕ → Option V) → List ℕ → Option (NetlinkMessage V)
read_message reads c =
    cond (begins_with_frame c) (option_map (λ p. record {
      header = header_of c;
      payload =
          p;
    }) (read_payload reads (frame_type c) (frame_body c))) None

-- The bytes of a finalized message.
abbrev pub message_text : {A : Type 0} → (A → TypedBody) → NetlinkMessage A → List ℕ
message_text entry m = header_text m.header ++ (payload_entry entry m.payload).1

-- The length of a message: its header and its body.
abbrev pub message_size : {A : Type 0} → (A → TypedBody) → NetlinkMessage A → ℕ
message_size entry m = 16 + length (payload_entry entry m.payload).1

-- The header has the message's length and type.
pub record IsFinalized {A : Type 0} (entry : A → TypedBody) (m : NetlinkMessage A) : Type 0 where
  pub has_length : m.header.length ≡ message_size entry m
  pub has_type : m.header.message_type ≡ (payload_entry entry m.payload).0

-- The message with its length and type set in the header.
abbrev pub finalized : {A : Type 0} → (A → TypedBody) → NetlinkMessage A → NetlinkMessage A
finalized entry m = record {
  header = record m.header { length = message_size entry m; message_type = (payload_entry entry m.payload).0 };
  payload = m.payload;
}

-- The header at the start of c with the length of a frame of this body, and the body: the frame's encoding without its
-- padding.
abbrev pub unpadded_text : List ℕ → List ℕ → List ℕ
unpadded_text c body = le4 (16 + length body) ++ (take 12 (drop 4 c) ++ body)
