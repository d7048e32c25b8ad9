-- A message that was read is written with its header, and with the canonical body of its type.
use Rattle.std.proofs.Common.{◌≡◌, ℕ, zero, suc, ℤ, ◌+◌, ◌-◌, ◌<◌, ◌≤◌, ◌^◌, Bool, true, false, cond, pos, List, [], ◌∷◌, ◌++◌, length, take, drop, Option, Some, None, refl, sym, ap, ◌∙◌, append_assoc, arith, nat_eq, nat_lt}
use Rattle.std.specs.Prelude.{option_map}
use Rattle.std.specs.Int.{w32}
use Rattle.std.specs.Ordering.{int_eq}
use Rattle.std.specs.Cmp.{signed_Decides}
use Rattle.std.proofs.lemmas.Bool.{and_parts, leb-true}
use Rattle.std.proofs.lemmas.List.{take-append-drop}
use Rattle.std.proofs.lemmas.Bool.Decides.{nat_tests}
use Rattle.std.proofs.lemmas.Int.{of_z-to_z}
use Rattle.netlink_packet_core_grammar.specs.Numbers.{u32_at, le4}
use Rattle.netlink_packet_core_grammar.specs.Frames.{frame_length, frame_type, frame_body, frame_text, begins_with_frame}
use Rattle.netlink_packet_core_grammar.specs.Attributes.{nla_align, zeros}
use Rattle.netlink_packet_core_messages.specs.Codes.{code_of, code_text, raw_code, nonzero_code}
use Rattle.netlink_packet_core_messages.specs.declared.message.NetlinkMessage.{NetlinkMessage}
use Rattle.netlink_packet_core_messages.specs.declared.header.NetlinkHeader.{NetlinkHeader}
use Rattle.netlink_packet_core_messages.specs.declared.payload.NetlinkPayload.{NetlinkPayload}
use Rattle.netlink_packet_core_messages.specs.declared.payload.NetlinkPayload.TheVariants.{Done, Error, InnerMessage}
use Rattle.netlink_packet_core_messages.specs.declared.done.DoneMessage.{DoneMessage}
use Rattle.netlink_packet_core_messages.specs.declared.error.ErrorMessage.{ErrorMessage}
use Rattle.netlink_packet_core_messages.specs.ControlMessages.{done_message_text, error_message_text, done_of, error_of, empty_done, read_done, read_error}
use Rattle.netlink_packet_core_messages.specs.Headers.{header_of, header_text}
use Rattle.netlink_packet_core_messages.specs.TypedBodies.{TypedBody}
use Rattle.netlink_packet_core_messages.specs.Payloads.{payload_entry, payload_value, read_payload, written_body}
use Rattle.netlink_packet_core_messages.specs.Messages.{read_message, message_text, message_value, finalized, unpadded_text}
use Rattle.netlink_packet_core_grammar.proofs.Numbers.{AllBytes, le4_first}
use Rattle.netlink_packet_core_messages.proofs.HeaderBytes.{header_kept}
use Rattle.netlink_packet_core_messages.proofs.Payloads.{not_control}

-- ---- codes

raw_by : (is_zero : Bool) (z : ℤ) → (is_zero ≡ true → z ≡ pos 0) → raw_code (cond is_zero None (Some z)) ≡ z
raw_by true z h = sym (h refl)
raw_by false z h = refl

zero_is : (z : ℤ) → int_eq z (pos 0) ≡ true → z ≡ pos 0
zero_is z h = grind (arith, signed_Decides)

raw-nonzero : (z : ℤ) → raw_code (nonzero_code z) ≡ z
raw-nonzero z = raw_by (int_eq z (pos 0)) z (zero_is z)

four_bytes_kept : (b : List ℕ) → 4 ≤ length b → AllBytes b → le4 (u32_at 0 b) ++ drop 4 b ≡ b
four_bytes_kept b l h = ap (λ s. s ++ drop 4 b) (le4_first b l h) ∙ take-append-drop 4 b

code_fits : (b : List ℕ) → AllBytes b → u32_at 0 b < 2 ^ 32
unfolding u32_at
code_fits b h =
    omega arith

code_kept : (b : List ℕ) → 4 ≤ length b → AllBytes b → code_text (code_of b) ++ drop 4 b ≡ b
code_kept b l h = rw (of_z-to_z w32 (u32_at 0 b) (code_fits b h)) (four_bytes_kept b l h)

pub done_kept : (b : List ℕ) → 4 ≤ length b → AllBytes b → done_message_text (done_of b) ≡ b
done_kept b l h = code_kept b l h

pub error_kept : (b : List ℕ) → 4 ≤ length b → AllBytes b → error_message_text (error_of b) ≡ b
error_kept b l h = rw (raw-nonzero (code_of b)) (code_kept b l h)

empty_done_text : done_message_text empty_done ≡ 0 ∷ 0 ∷ 0 ∷ 0 ∷ []
unfolding le4
empty_done_text = refl

-- ---- payloads

-- the canonical body of a payload that was read, if `inner_body` is that of an inner message
abbrev of_read : {V : Type 0} → TypedBody → TypedBody → Option (NetlinkPayload V) → TypedBody
of_read other inner_body None = other
of_read other inner_body (Some p) = payload_entry (λ _. inner_body) p

error_of_read : (V : Type 0) (inner_body : TypedBody) (b : List ℕ) → AllBytes b → of_read {V = V} (2, b) inner_body (option_map Error (read_error b)) ≡ (2, b)
error_of_read V inner_body (x ∷ y ∷ z ∷ w ∷ b) h =
    let s : nat_lt (length (x ∷ y ∷ z ∷ w ∷ b)) 4 ≡ false = grind (arith, nat_tests) in
    rw s (ap (λ (x : List ℕ). (2, x)) (error_kept (x ∷ y ∷ z ∷ w ∷ b) (omega arith) h))
error_of_read V inner_body b h = refl

done_of_read : (V : Type 0) (inner_body : TypedBody) (b : List ℕ) → AllBytes b → of_read {V = V} (3, cond (nat_eq (length b) 0) (0 ∷ 0 ∷ 0 ∷ 0 ∷ []) b) inner_body (option_map Done (read_done b)) ≡ (3, cond (nat_eq (length b) 0) (0 ∷ 0 ∷ 0 ∷ 0 ∷ []) b)
done_of_read V inner_body [] h = ap (λ (x : List ℕ). (3, x)) empty_done_text
done_of_read V inner_body (x ∷ y ∷ z ∷ w ∷ b) h =
    let n : nat_eq (length (x ∷ y ∷ z ∷ w ∷ b)) 0 ≡ false = grind (arith, nat_tests) in
    let s : nat_lt (length (x ∷ y ∷ z ∷ w ∷ b)) 4 ≡ false = grind (arith, nat_tests) in
    rw (n, s) (ap (λ (x : List ℕ). (3, x)) (done_kept (x ∷ y ∷ z ∷ w ∷ b) (omega arith) h))
done_of_read V inner_body b h = refl

inner_of_read : {V : Type 0} (inner_body : TypedBody) (o : Option V) → of_read inner_body inner_body (option_map InnerMessage o) ≡ inner_body
inner_of_read inner_body None = refl
inner_of_read inner_body (Some v) = refl

read_written : {V : Type 0} (reads : ℕ → List ℕ → Option V) (inner_body : List ℕ) (t : ℕ) (b : List ℕ) → AllBytes b → of_read (t, written_body inner_body t b) (t, inner_body) (read_payload reads t b) ≡ (t, written_body inner_body t b)
read_written reads inner_body zero b h = inner_of_read (0, inner_body) (reads 0 b)
read_written reads inner_body (suc zero) b h = refl
read_written reads inner_body (suc (suc zero)) b h = error_of_read _ (2, inner_body) b h
read_written reads inner_body (suc (suc (suc zero))) b h = done_of_read _ (3, inner_body) b h
read_written reads inner_body (suc (suc (suc (suc zero)))) b h = refl
read_written reads inner_body t b h =
    let n = not_control t (λ positive. omega arith) in
    rw (n.0, n.1.0, n.1.1.0, n.1.1.1) (inner_of_read (t, inner_body) (reads t b))

-- a control message is not read as an inner message

no_error : {V : Type 0} (o : Option ErrorMessage) (v : V) → option_map Error o ≡ Some (InnerMessage v) → ⊥
no_error None v h = absurd cc
no_error (Some m) v h = absurd cc

no_done : {V : Type 0} (o : Option DoneMessage) (v : V) → option_map Done o ≡ Some (InnerMessage v) → ⊥
no_done None v h = absurd cc
no_done (Some m) v h = absurd cc

inner_is : {V : Type 0} (o : Option V) (v : V) → option_map InnerMessage o ≡ Some (InnerMessage v) → o ≡ Some v
inner_is None v h = absurd cc
inner_is (Some w) v h = cc

inner_read : {V : Type 0} (reads : ℕ → List ℕ → Option V) (t : ℕ) (b : List ℕ) (v : V) → read_payload reads t b ≡ Some (InnerMessage v) → reads t b ≡ Some v
inner_read reads zero b v e = inner_is (reads 0 b) v e
inner_read reads (suc zero) b v e = absurd cc
inner_read reads (suc (suc zero)) b v e = absurd (no_error (read_error b) v e)
inner_read reads (suc (suc (suc zero))) b v e = absurd (no_done (read_done b) v e)
inner_read reads (suc (suc (suc (suc zero)))) b v e = absurd cc
inner_read reads t b v e =
    let n = not_control t (λ positive. omega arith) in
    inner_is (reads t b) v (rw (n.0, n.1.0, n.1.1.0, n.1.1.1) at e)

entry_by : {A V : Type 0} (value : A → V) (entry : A → TypedBody) (inner_body : TypedBody) (p : NetlinkPayload A) → ((x : A) → payload_value value p ≡ InnerMessage (value x) → entry x ≡ inner_body) → payload_entry entry p ≡ payload_entry (λ _. inner_body) (payload_value value p)
entry_by value entry inner_body (InnerMessage x) h = h x refl
entry_by value entry inner_body x h = refl

pub payload_written : {A V : Type 0} (reads : ℕ → List ℕ → Option V) (value : A → V) (entry : A → TypedBody) (inner_body : List ℕ) (t : ℕ) (b : List ℕ) (p : NetlinkPayload A) → AllBytes b → read_payload reads t b ≡ Some (payload_value value p) → ((x : A) → reads t b ≡ Some (value x) → entry x ≡ (t, inner_body)) → payload_entry entry p ≡ (t, written_body inner_body t b)
payload_written reads value entry inner_body t b p h e k =
    entry_by value entry (t, inner_body) p (λ x f. k x (inner_read reads t b (value x) (e ∙ ap Some f)))
    ∙ ap (of_read (t, written_body inner_body t b) (t, inner_body)) (sym e)
    ∙ read_written reads inner_body t b h

-- ---- messages

AllBytes-drop : (n : ℕ) (c : List ℕ) → AllBytes c → AllBytes (drop n c)
AllBytes-drop (suc n) (x ∷ c) h = AllBytes-drop n c (λ i. h (suc i))
AllBytes-drop x c h = h

AllBytes-take : (n : ℕ) (c : List ℕ) → AllBytes c → AllBytes (take n c)
AllBytes-take (suc n) [] h i = h i
AllBytes-take (suc n) (x ∷ c) h zero = h zero
AllBytes-take (suc n) (x ∷ c) h (suc i) = AllBytes-take n c (λ j. h (suc j)) i
AllBytes-take zero c h i = omega arith

record ReadAs {V : Type 0} (whole : Bool) (h : NetlinkHeader) (o : Option (NetlinkPayload V)) (m : NetlinkMessage V) : Type 0 where
  pub is_whole : whole ≡ true
  pub header_is : m.header ≡ h
  pub payload_is : o ≡ Some m.payload

read_as : {V : Type 0} (whole : Bool) (h : NetlinkHeader) (o : Option (NetlinkPayload V)) (m : NetlinkMessage V) → cond whole (option_map (λ p. record { header = h; payload = p }) o) None ≡ Some m → ReadAs whole h o m
read_as {V = V} true h (Some p) m e =
    let f : record { header = h; payload = p } ≡ m = cc in
    record { is_whole = refl; header_is = ap (λ (x : NetlinkMessage V). x.header) (sym f); payload_is = ap (λ (x : NetlinkMessage V). Some x.payload) f }
read_as true h None m e = absurd cc
read_as false h o m e = absurd cc

text_by : (h : NetlinkHeader) (c : List ℕ) (t : ℕ) (w : List ℕ) (x : TypedBody) → x ≡ (t, w) → h ≡ header_of c → t ≡ frame_type c → 16 ≤ length c → AllBytes c → header_text (record h { length = 16 + length x.1; message_type = x.0 }) ++ x.1 ≡ unpadded_text c w
text_by h c t w x e f g l b =
    rw e (ap (λ y. y ++ w) (header_kept h c (16 + length w) t f g l b) ∙ append_assoc (le4 (16 + length w)) (take 12 (drop 4 c)) w)

pub message_written : {A V : Type 0} (reads : ℕ → List ℕ → Option V) (value : A → V) (entry : A → TypedBody) (inner_body c : List ℕ) (m : NetlinkMessage A) → AllBytes c → read_message reads c ≡ Some (message_value value m) → ((x : A) → reads (frame_type c) (frame_body c) ≡ Some (value x) → entry x ≡ (frame_type c, inner_body)) → message_text entry (finalized entry m) ≡ unpadded_text c (written_body inner_body (frame_type c) (frame_body c))
message_written reads value entry inner_body c m h e k =
    let r = read_as (begins_with_frame c) (header_of c) (read_payload reads (frame_type c) (frame_body c)) (message_value value m) e in
    let b : AllBytes (frame_body c) = AllBytes-take (frame_length c - 16) (drop 16 c) (AllBytes-drop 16 c h) in
    let p = payload_written reads value entry inner_body (frame_type c) (frame_body c) m.payload b r.payload_is k in
    let l : 16 ≤ length c = leb-true _ _ (and_parts _ _ r.is_whole).0 in
    text_by m.header c (frame_type c) (written_body inner_body (frame_type c) (frame_body c)) (payload_entry entry m.payload) p r.header_is refl l h

-- ---- padding

pub padded : (c body : List ℕ) → unpadded_text c body ++ zeros (nla_align (16 + length body) - (16 + length body)) ≡ frame_text c body
unfolding frame_text
padded c body = simp (append_assoc)
