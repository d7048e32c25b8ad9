-- The bytes of a message are read as the message, whatever follows them.
use Rattle.std.proofs.Common.{◌≡◌, ℕ, ◌+◌, ◌-◌, List, ◌++◌, length, refl, ◌∙◌, arith, append_assoc, length-append, Option, Some, true}
use Rattle.std.proofs.lemmas.List.{take_at, drop_at}
use Rattle.netlink_packet_core_grammar.specs.Numbers.{u16_at}
use Rattle.netlink_packet_core_grammar.specs.Frames.{BeginsWithFrame, frame_body, begins_with_frame}
use Rattle.netlink_packet_core_messages.specs.declared.message.NetlinkMessage.{NetlinkMessage}
use Rattle.netlink_packet_core_messages.specs.declared.header.NetlinkHeader.{NetlinkHeader}
use Rattle.netlink_packet_core_messages.specs.Headers.{header_of, header_text}
use Rattle.netlink_packet_core_messages.specs.TypedBodies.{TypedBody, IsInner}
use Rattle.netlink_packet_core_messages.specs.Payloads.{payload_entry, payload_value, OfInner, HasCode, read_payload}
use Rattle.netlink_packet_core_messages.specs.declared.payload.NetlinkPayload.{NetlinkPayload}
use Rattle.netlink_packet_core_messages.specs.Messages.{read_message, message_text, message_value, IsFinalized}
use Rattle.netlink_packet_core_messages.proofs.Frames.{is_frame-true}
use Rattle.netlink_packet_core_messages.proofs.Headers.{length_at, type_at, header_at, length-header_text}
use Rattle.netlink_packet_core_messages.proofs.Payloads.{payload_reads}

pub whole : (h : NetlinkHeader) (t rest : List ℕ) → h.length ≡ 16 + length t → BeginsWithFrame (header_text h ++ (t ++ rest))
whole h t rest e =
    let l = length_at h (t ++ rest) in
    let n = length-header_text h in
    record {
      has_header = omega (arith, length-append (header_text h) (t ++ rest));
      covers_header = omega arith;
      within = omega (arith, length-append (header_text h) (t ++ rest), length-append t rest);
    }

body : (h : NetlinkHeader) (t rest : List ℕ) → h.length ≡ 16 + length t → frame_body (header_text h ++ (t ++ rest)) ≡ t
body h t rest e =
    let d = drop_at (header_text h) (t ++ rest) 16 (length-header_text h) in
    let k : length t ≡ h.length - 16 = omega arith in
    rw (length_at h (t ++ rest), d) (take_at t rest (h.length - 16) k)

read_at : {V : Type 0} (reads : ℕ → List ℕ → Option V) (c b : List ℕ) (t : ℕ) (h : NetlinkHeader) (p : NetlinkPayload V) → begins_with_frame c ≡ true → u16_at 4 c ≡ t → frame_body c ≡ b → header_of c ≡ h → read_payload reads t b ≡ Some p → read_message reads c ≡ Some (record { header = h; payload = p })
read_at reads c b t h p e1 e2 e3 e4 e5 = rw (e1, e2, e3, e4, e5) refl

pub message_reads : {A V : Type 0} (e : A → TypedBody) (fits : A → Type 0) (reads : ℕ → List ℕ → Option V) (value : A → V) → ((x : A) → fits x → reads (e x).0 (e x).1 ≡ Some (value x)) → ((x : A) → IsInner (e x).0) → (m : NetlinkMessage A) (rest : List ℕ) → HasCode m.payload → OfInner fits m.payload → IsFinalized e m → read_message reads (message_text e m ++ rest) ≡ Some (message_value value m)
message_reads e fits reads value back inner m rest c o finalized =
    let w = is_frame-true _ (whole m.header (payload_entry e m.payload).1 rest finalized.has_length) in
    let b = body m.header (payload_entry e m.payload).1 rest finalized.has_length in
    rw (append_assoc (header_text m.header) (payload_entry e m.payload).1 rest)
    (read_at reads (header_text m.header ++ ((payload_entry e m.payload).1 ++ rest)) _ (payload_entry e m.payload).0 m.header (payload_value value m.payload) w (type_at m.header ((payload_entry e m.payload).1 ++ rest) ∙ finalized.has_type) b (header_at m.header ((payload_entry e m.payload).1 ++ rest)) (payload_reads e fits reads value back inner m.payload c o))
