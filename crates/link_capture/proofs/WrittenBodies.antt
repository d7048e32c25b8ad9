-- The core writes the canonical body of a frame that was read, and a frame whose body has a text is read.
use Rattle.std.proofs.Common.{◌≡◌, ℕ, ltb, eqb, true, false, cond, List, length, Ok, Option, None, Some, refl, sym, ap, ◌∙◌, inl, inr}
use Rattle.std.specs.Prelude.{◌≢◌, option_map}
use Rattle.std.specs.Option.{is_some}
use Rattle.std.proofs.lemmas.Bool.{cases_Bool, eqb-true, le-leb}
use Rattle.netlink_packet_core.specs.ControlMessages.{read_done, read_error}
use Rattle.netlink_packet_core.specs.Frames.{BeginsWithFrame, frame_length, frame_type, frame_body, begins_with_frame}
use Rattle.netlink_packet_core.specs.Headers.{header_of}
use Rattle.netlink_packet_core.specs.Messages.{read_message}
use Rattle.netlink_packet_core.specs.Payloads.{read_payload, written_body}
use Rattle.netlink_packet_core.specs.TypedBodies.{TypedBody}
use Rattle.netlink_packet_core.specs.NetlinkMessage.{NetlinkMessage}
use Rattle.netlink_packet_core.specs.NetlinkPayload.{NetlinkPayload}
use Rattle.netlink_packet_core.specs.NetlinkPayload.TheVariants.{Done, Error, InnerMessage}
use Rattle.link_message_grammar.specs.Body.{link_body}
use Rattle.link_capture_grammar.specs.Bodies.{done_text, error_text, ruled_text, is_link_type, body_text}
use Rattle.link_capture.specs.Routes.{reads_route, typed_text}
use Rattle.link_capture_grammar.proofs.Frames.{guard}
use Rattle.link_capture_grammar.proofs.Same.{error_is}

-- OVERRUN isn't a type of links
overrun : (t : ℕ) → eqb t 4 ≡ true → is_link_type t ≡ false
overrun t h = rw (eqb-true t 4 h) refl

pub one_body : (x y : TypedBody) → Some x ≡ Some y → y ≡ x
one_body x y e = cc

last_written : (t : ℕ) (b text : List ℕ) → cond (is_link_type t) (ruled_text link_body b) (Ok b) ≡ Ok text → cond (eqb t 4) b text ≡ text
last_written t b text h =
    elim (cases_Bool (eqb t 4)) [
      | inl k ↦ (let e : b ≡ text = (let f = ap (λ c. cond c (ruled_text link_body b) (Ok b)) (sym (overrun t k)) ∙ h in cc) in rw k e)
      | inr k ↦ rw k refl
    ]

-- the body that the core writes is canonical
pub body_written : (t : ℕ) (b text : List ℕ) → body_text link_body t b ≡ Ok text → written_body text t b ≡ text
unfolding body_text
body_written t b text h =
    elim (guard (eqb t 1) _ _ _ h) [
      | inl k ↦ rw k.0 (let f = k.1 in cc)
      | inr k ↦ rw k.0 (elim (guard (eqb t 2) _ _ _ k.1) [
        | inl m ↦ rw m.0 (error_is b text m.1)
        | inr m ↦ rw m.0 (elim (guard (eqb t 3) _ _ _ m.1) [
          | inl n ↦ rw n.0 (elim (guard (eqb (length b) 0) _ _ _ n.1) [
            | inl o ↦ rw o.0 (let f = o.1 in cc)
            | inr o ↦ rw o.0 (error_is b text o.1)
          ])
          | inr n ↦ rw n.0 (last_written t b text n.1)
        ])
      ])
    ]

-- ---- a body that has a text is read

mapped : {A B : Type 0} (f : A → B) (o : Option A) → is_some o ≡ true → is_some (option_map f o) ≡ true
mapped f None h = h
mapped f (Some x) h = refl

error_read : (b text : List ℕ) → error_text b ≡ Ok text → is_some (read_error b) ≡ true
error_read b text h =
    elim (guard (ltb (length b) 4) _ _ _ h) [
      | inl k ↦ (let f = k.1 in absurd (cc))
      | inr k ↦ rw k.0 refl
    ]

done_read : (b text : List ℕ) → done_text b ≡ Ok text → is_some (read_done b) ≡ true
done_read b text h =
    elim (guard (eqb (length b) 0) _ _ _ h) [
      | inl k ↦ rw k.0 refl
      | inr k ↦ rw k.0 (elim (guard (ltb (length b) 4) _ _ _ k.1) [
        | inl m ↦ (let f = m.1 in absurd (cc))
        | inr m ↦ rw m.0 refl
      ])
    ]

payload_read : (t : ℕ) (b text : List ℕ) (inner : Option TypedBody) → body_text link_body t b ≡ Ok text → is_some inner ≡ true → is_some (read_payload (λ _ _. inner) t b) ≡ true
unfolding body_text
payload_read t b text inner h there =
    elim (guard (eqb t 1) _ _ _ h) [
      | inl k ↦ rw k.0 refl
      | inr k ↦ rw k.0 (elim (guard (eqb t 2) _ _ _ k.1) [
        | inl m ↦ rw m.0 (mapped Error (read_error b) (error_read b text m.1))
        | inr m ↦ rw m.0 (elim (guard (eqb t 3) _ _ _ m.1) [
          | inl n ↦ rw n.0 (mapped Done (read_done b) (done_read b text n.1))
          | inr n ↦ rw n.0 (elim (cases_Bool (eqb t 4)) [
            | inl o ↦ rw o refl
            | inr o ↦ rw o (mapped InnerMessage inner there)
          ])
        ])
      ])
    ]

pub frame_read : (c body : List ℕ) → BeginsWithFrame c → body_text link_body (frame_type c) (frame_body c) ≡ Ok body → read_message reads_route c ≢ None
frame_read c body whole h none =
    let t = frame_type c in
    let b = frame_body c in
    let yes : begins_with_frame c ≡ true = rw (le-leb 16 (length c) whole.has_header, le-leb 16 (frame_length c) whole.covers_header, le-leb (frame_length c) (length c) whole.within) refl in
    let build : NetlinkPayload TypedBody → NetlinkMessage TypedBody = λ p. record { header = header_of c; payload = p } in
    let read : is_some (option_map build (read_payload reads_route t b)) ≡ true = mapped build (read_payload reads_route t b) (payload_read t b body (reads_route t b) h (ap (λ o. is_some (typed_text t o)) h)) in
    let e : is_some (read_message reads_route c) ≡ true = ap (λ y. is_some (cond y (option_map build (read_payload reads_route t b)) None)) yes ∙ read in
    absurd (let x : true ≡ false = sym e ∙ ap is_some none in cc)
