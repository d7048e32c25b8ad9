-- The bodies of frames, by the frame's type.
use Rattle.std.specs.Prelude.{ℕ, List, [], ◌∷◌, length, Option, Some, option_map, Bool, false, cond, nat_eq, nat_lt}
use Rattle.std.specs.Int.{w32}
use Rattle.std.specs.Int.RustNames.{FitsSigned}
use Rattle.netlink_packet_core_messages.specs.Codes.{IsCode}
use Rattle.netlink_packet_core_messages.specs.declared.payload.NetlinkPayload.{NetlinkPayload}
use Rattle.netlink_packet_core_messages.specs.declared.payload.NetlinkPayload.TheVariants.{Done, Error, Noop, Overrun}
use Rattle.netlink_packet_core_messages.specs.declared.payload.NetlinkPayload.TheVariants.{InnerMessage}
use Rattle.netlink_packet_core_messages.specs.ControlMessages.{done_message_text, error_message_text, read_done}
use Rattle.netlink_packet_core_messages.specs.ControlMessages.{read_error}
use Rattle.netlink_packet_core_messages.specs.TypedBodies.{TypedBody}

-- The payload with the value of its inner message in its stead.
abbrev pub payload_value : {A B : Type 0} → (A → B) → NetlinkPayload A → NetlinkPayload B
payload_value value (Done m) = Done m
payload_value value (Error m) = Error m
payload_value value Noop = Noop
payload_value value (Overrun b) = Overrun b
payload_value value (InnerMessage x) = InnerMessage (value x)

-- The type and the body of a payload's encoding.
abbrev pub payload_entry : {A : Type 0} → (A → TypedBody) → NetlinkPayload A → TypedBody
payload_entry entry (Done m) = (3, done_message_text m)
payload_entry entry (Error m) = (2, error_message_text m)
payload_entry entry Noop = (1, [])
payload_entry entry (Overrun b) = (4, b)
payload_entry entry (InnerMessage x) = entry x

-- The property P holds for the inner message, if there is one.
abbrev pub OfInner : {A : Type 0} → (A → Type 0) → NetlinkPayload A → Type 0
OfInner P (Done m) = Unit {0}
OfInner P (Error m) = Unit {0}
OfInner P Noop = Unit {0}
OfInner P (Overrun b) = Unit {0}
OfInner P (InnerMessage x) = P x

-- The payload of a frame of type t with body b, if it is accepted.
abbrev pub read_payload : {V : Type 0} → (ℕ → List ℕ → Option V) → ℕ → List ℕ → Option (NetlinkPayload V)
read_payload reads t b =
    cond (nat_eq t 1) (Some Noop)
    (cond (nat_eq t 2) (option_map Error (read_error b))
    (cond (nat_eq t 3) (option_map Done (read_done b))
    (cond (nat_eq t 4) (Some (Overrun b))
    (option_map InnerMessage (reads t b)))))

-- Reading a frame of type t with body b may run out of memory: not for a NOOP, whose body is dropped; for ERROR and
-- DONE only if bytes follow the 4 of the code; for OVERRUN only if the body isn't empty; for other types by `inner`.
abbrev pub payload_may_allocate : (ℕ → List ℕ → Bool) → ℕ → List ℕ → Bool
payload_may_allocate inner t b =
    cond (nat_eq t 1) false
    (cond (nat_eq t 2) (nat_lt 4 (length b))
    (cond (nat_eq t 3) (nat_lt 4 (length b))
    (cond (nat_eq t 4) (nat_lt 0 (length b)) (inner t b))))

-- The invariant of a payload's code: it fits 32 bits, and an error's code isn't 0.
abbrev pub HasCode : {A : Type 0} → NetlinkPayload A → Type 0
HasCode (Done m) = FitsSigned w32 m.code
HasCode (Error m) = IsCode m.code
HasCode Noop = Unit {0}
HasCode (Overrun b) = Unit {0}
HasCode (InnerMessage x) = Unit {0}

-- The canonical body of a frame of type t with body b; `inner_body` is that of an inner message.
abbrev pub written_body : List ℕ → ℕ → List ℕ → List ℕ
written_body inner_body t b =
    cond (nat_eq t 1) []
    (cond (nat_eq t 2) b
    (cond (nat_eq t 3) (cond (nat_eq (length b) 0) (0 ∷ 0 ∷ 0 ∷ 0 ∷ []) b)
    (cond (nat_eq t 4) b inner_body)))
