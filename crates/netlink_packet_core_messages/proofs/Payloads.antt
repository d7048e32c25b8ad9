-- A payload's type and bytes are read as the payload.
use Rattle.std.proofs.Common.{◌≡◌, ◌≢◌, ℕ, ℤ, ◌<◌, ◌^◌, List, ◌++◌, length, refl, arith, false, Option, Some, None, pos, nat_eq, nat_lt, drop}
use Rattle.std.specs.Ordering.{int_eq}
use Rattle.std.specs.Cmp.{signed_Decides}
use Rattle.netlink_packet_core_grammar.proofs.Numbers.{from_le4}
use Rattle.std.proofs.lemmas.Bool.Decides.{nat_tests}
use Rattle.std.proofs.lemmas.Int.{to_z-of_z}
use Rattle.std.proofs.Math.Facts.{Fits-of_z}
use Rattle.std.specs.Int.{w32, cast_unsigned}
use Rattle.std.specs.Int.RustNames.{FitsSigned}
use Rattle.netlink_packet_core_grammar.specs.Numbers.{u32_at, le4}
use Rattle.netlink_packet_core_grammar.proofs.Sizes.{length-le4-append}
use Rattle.netlink_packet_core_messages.specs.declared.payload.NetlinkPayload.{NetlinkPayload}
use Rattle.netlink_packet_core_messages.specs.declared.payload.NetlinkPayload.TheVariants.{Done, Error, InnerMessage}
use Rattle.netlink_packet_core_messages.specs.Codes.{code_of, code_text, nonzero_code, raw_code, IsCode}
use Rattle.netlink_packet_core_messages.specs.ControlMessages.{done_message_text, error_message_text}
use Rattle.netlink_packet_core_messages.specs.TypedBodies.{TypedBody, IsInner}
use Rattle.netlink_packet_core_messages.specs.Payloads.{payload_value, payload_entry, read_payload, OfInner, HasCode}

pub number_at : (n : ℕ) (r : List ℕ) → n < 2 ^ 32 → u32_at 0 (le4 n ++ r) ≡ n
unfolding u32_at le4
number_at n r f = from_le4 n

pub drop-le4 : (n : ℕ) (r : List ℕ) → drop 4 (le4 n ++ r) ≡ r
unfolding le4
drop-le4 n r = refl

code_at : (z : ℤ) (r : List ℕ) → FitsSigned w32 z → code_of (code_text z ++ r) ≡ z
code_at z r f =
    rw (number_at (cast_unsigned w32 z) r ((Fits-of_z f).fits)) (to_z-of_z w32 z f)

not_equal : (x y : ℤ) → x ≢ y → int_eq x y ≡ false
not_equal x y h = grind (arith, signed_Decides)

nonzero-raw : (k : Option ℤ) → IsCode k → nonzero_code (raw_code k) ≡ k
nonzero-raw None h = refl
nonzero-raw (Some z) h = rw (not_equal z (pos 0) h.1) refl

raw_fits : (k : Option ℤ) → IsCode k → FitsSigned w32 (raw_code k)
raw_fits None h = record { sfits = omega arith }
raw_fits (Some z) h = h.0

pub not_control : (t : ℕ) → IsInner t → (nat_eq t 1 ≡ false) × ((nat_eq t 2 ≡ false) × ((nat_eq t 3 ≡ false) × (nat_eq t 4 ≡ false)))
not_control t h = grind (arith, nat_tests)

pub payload_reads : {A V : Type 0} (e : A → TypedBody) (fits : A → Type 0) (reads : ℕ → List ℕ → Option V) (value : A → V) → ((x : A) → fits x → reads (e x).0 (e x).1 ≡ Some (value x)) → ((x : A) → IsInner (e x).0) → (p : NetlinkPayload A) → HasCode p → OfInner fits p → read_payload reads (payload_entry e p).0 (payload_entry e p).1 ≡ Some (payload_value value p)
payload_reads e fits reads value back inner (Done m) c f =
    let l = length-le4-append (cast_unsigned w32 m.code) m.extended_ack in
    let z : nat_eq (length (done_message_text m)) 0 ≡ false = grind (arith, nat_tests) in
    let s : nat_lt (length (done_message_text m)) 4 ≡ false = grind (arith, nat_tests) in
    rw (z, s, code_at m.code m.extended_ack c, drop-le4 (cast_unsigned w32 m.code) m.extended_ack) refl
payload_reads e fits reads value back inner (Error m) c f =
    let l = length-le4-append (cast_unsigned w32 (raw_code m.code)) m.header in
    let s : nat_lt (length (error_message_text m)) 4 ≡ false = grind (arith, nat_tests) in
    rw (s, code_at (raw_code m.code) m.header (raw_fits m.code c), drop-le4 (cast_unsigned w32 (raw_code m.code)) m.header, nonzero-raw m.code c) refl
payload_reads e fits reads value back inner (InnerMessage x) c f =
    let n = not_control (e x).0 (inner x) in
    rw (n.0, n.1.0, n.1.1.0, n.1.1.1, back x f) refl
payload_reads e fits reads value back inner x c f = refl
