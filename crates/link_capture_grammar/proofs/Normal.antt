-- A normal text is legal and already canonical; the text of an older rule is migrated to that of the rule.
use Rattle.std.proofs.Common.{◌≡◌, ℕ, Bool, ◌+◌, ◌-◌, ◌^◌, ◌<◌, ◌≤◌, ltb, eqb, true, false, cond, Result, List, [], ◌∷◌, ◌++◌, length, take, drop, Ok, Err, refl, sym, ap, subst, ◌∙◌, inl, inr, arith, length-append, length-drop, append_assoc}
use Rattle.std.proofs.lemmas.List.{take_at, drop_at, length-take, length-replicate, drop-drop, take-append-drop}
use Rattle.std.proofs.lemmas.Bool.{le-ltb, ltb-false}
use Rattle.netlink_packet_core_grammar.specs.Attributes.{nla_align, zeros}
use Rattle.netlink_packet_core_grammar.specs.Numbers.{u16_at, u32_at, le4}
use Rattle.netlink_packet_core_grammar.specs.Frames.{frame_length, frame_type, frame_body, frame_text}
use Rattle.netlink_packet_core_grammar.proofs.Numbers.{u16_at-append, u16_at-drop_4, u32_at-le4}
use Rattle.netlink_packet_core_grammar.proofs.Sizes.{length-le4}
use Rattle.attribute_tables_grammar.specs.Rules.{Rule, IsMigratedBy}
use Rattle.link_capture_grammar.specs.declared.fault.FaultKind.TheVariants.{TextOverLimit}
use Rattle.link_capture_grammar.specs.Bodies.{error_text, done_text, ruled_text, is_link_type, body_text}
use Rattle.link_capture_grammar.specs.Captures.{Judged, first_frame, judged_text, checked_header, shifted, first_fault, texts, IsLegal}
use Rattle.link_capture_grammar.proofs.Frames.{accepted, by_frames, end_offset, end_step, end_stop, first_frame_is, judgement, seen, fault_step, texts_step, texts_stop, fault_nil, texts_nil, guard}
use Rattle.link_capture_grammar.specs.declared.fault.FaultKind.{FaultKind}

-- ---- the text of a body is already canonical

error_idempotent : (bytes text : List ℕ) → error_text bytes ≡ Ok text → error_text text ≡ Ok text
error_idempotent bytes text h =
    elim (guard (ltb (length bytes) 4) _ _ _ h) [
      | inl b ↦ (let f = b.1 in absurd (cc))
      | inr b ↦ (let e : bytes ≡ text = (let f = b.1 in cc) in subst (λ x. error_text x ≡ Ok text) e h)
    ]

done_idempotent : (bytes text : List ℕ) → done_text bytes ≡ Ok text → done_text text ≡ Ok text
done_idempotent bytes text h =
    elim (guard (eqb (length bytes) 0) _ _ _ h) [
      | inl a ↦ (let e : (0 ∷ 0 ∷ 0 ∷ 0 ∷ []) ≡ text = (let f = a.1 in cc) in subst (λ x. done_text x ≡ Ok x) e refl)
      | inr a ↦
          elim (guard (ltb (length bytes) 4) _ _ _ a.1) [
            | inl b ↦ (let f = b.1 in absurd (cc))
            | inr b ↦ (let e : bytes ≡ text = (let f = b.1 in cc) in subst (λ x. done_text x ≡ Ok text) e h)
          ]
    ]

-- the properties of an accepted body
pub record Ruled (r : Rule) (b text : List ℕ) : Type 0 where
  pub accepted : r.accepted b ≡ true
  pub empty_ports : r.empty_ports b ≡ false
  pub fits : r.fits b ≡ true
  pub is : r.canonical b ≡ text

pub ruled : (r : Rule) (b text : List ℕ) → ruled_text r b ≡ Ok text → Ruled r b text
ruled r b text h =
    elim (guard (r.accepted b) _ _ _ h) [
      | inl a ↦
          elim (guard (r.empty_ports b) _ _ _ a.1) [
            | inl m ↦ (let f = m.1 in absurd (cc))
            | inr m ↦
                elim (guard (r.fits b) _ _ _ m.1) [
                  | inl k ↦ record { accepted = a.0; empty_ports = m.0; fits = k.0; is = (let f = k.1 in cc) }
                  | inr k ↦ (let f = k.1 in absurd (cc))
                ]
          ]
      | inr a ↦ (let f = a.1 in absurd (cc))
    ]

ruled_migrated : (r s : Rule) → IsMigratedBy r s → (b old new : List ℕ) → ruled_text r b ≡ Ok old → ruled_text s b ≡ Ok new → ruled_text s old ≡ Ok new
ruled_migrated r s migrates b old new h k =
    let x = ruled r b old h in
    let y = ruled s b new k in
    let accepted = migrates.accepted b x.accepted y.accepted x.empty_ports in
    let full = migrates.empty_ports b x.accepted y.accepted x.empty_ports in
    let migrated_text : ruled_text s (r.canonical b) ≡ Ok new = rw (accepted, full, migrates.fits b x.accepted y.accepted y.fits, migrates.canonical b x.accepted y.accepted) (ap Ok y.is) in
    subst (λ z. ruled_text s z ≡ Ok new) x.is migrated_text

judged_texted : (limit : ℕ) (c : List ℕ) (r : Result (List ℕ) FaultKind) (frame : ℕ × List ℕ) → judged_text limit c r ≡ Ok frame → (body : List ℕ) × (r ≡ Ok body) × (frame.1 ≡ frame_text c body) × (16 + length body ≤ limit)
judged_texted limit c (Err why) frame h = absurd (cc)
judged_texted limit c (Ok body) frame h =
    elim (guard (ltb limit (16 + length body)) _ _ _ h) [
      | inl a ↦ (let e = a.1 in absurd (cc))
      | inr a ↦ (let e : (frame_length c, frame_text c body) ≡ frame = (let f = a.1 in cc) in (body, refl, ap (λ (p : ℕ × List ℕ). p.1) (sym e), ltb-false _ _ a.0))
    ]

pub checked_header_ok : (limit size claimed : ℕ) (j : Judged) → 16 ≤ size → claimed ≤ size → 16 ≤ claimed → claimed ≤ limit → checked_header limit size claimed j ≡ j
checked_header_ok limit size claimed j a b c d = rw (le-ltb size 16 a, le-ltb size claimed b, le-ltb claimed 16 c, le-ltb limit claimed d)

-- a frame's text: its length and its parts
pub frame_text_size : (c body : List ℕ) → 16 ≤ length c → length (frame_text c body) ≡ nla_align (16 + length body)
unfolding frame_text
frame_text_size c body h =
    simp (length-append, length-le4, length-take, length-drop, length-replicate) (omega arith)

pub text_length : (c body r : List ℕ) → 16 + length body < 2 ^ 32 → frame_length (frame_text c body ++ r) ≡ 16 + length body
unfolding frame_text
text_length c body r h = ap (u32_at 0) (append_assoc (le4 (16 + length body)) _ r) ∙ u32_at-le4 (16 + length body) _

-- the bytes of a frame's text after its length field
after_length : (c body r : List ℕ) → drop 4 (frame_text c body ++ r) ≡ take 12 (drop 4 c) ++ (body ++ zeros (nla_align (16 + length body) - (16 + length body)) ++ r)
unfolding frame_text
after_length c body r = ap (drop 4) (append_assoc (le4 (16 + length body)) _ r) ∙ drop_at (le4 (16 + length body)) _ 4 (length-le4 (16 + length body)) ∙ simp append_assoc

pub header_size : (c : List ℕ) → 16 ≤ length c → length (take 12 (drop 4 c)) ≡ 12
header_size c h = length-take 12 (drop 4 c) ∙ omega (arith, length-drop 4 c)

pub text_header : (c body r : List ℕ) → 16 ≤ length c → take 12 (drop 4 (frame_text c body ++ r)) ≡ take 12 (drop 4 c)
text_header c body r h = ap (take 12) (after_length c body r) ∙ take_at (take 12 (drop 4 c)) _ 12 (header_size c h)

pub text_type : (c body r : List ℕ) → 16 ≤ length c → frame_type (frame_text c body ++ r) ≡ frame_type c
text_type c body r h =
    u16_at-drop_4 (frame_text c body ++ r)
    ∙ ap (u16_at 0) (after_length c body r)
    ∙ u16_at-append (take 12 (drop 4 c)) _ (omega (arith, header_size c h))
    ∙ sym (u16_at-append (take 12 (drop 4 c)) (drop 12 (drop 4 c)) (omega (arith, header_size c h)))
    ∙ ap (u16_at 0) (take-append-drop 12 (drop 4 c))
    ∙ sym (u16_at-drop_4 c)

pub text_body : (c body r : List ℕ) → 16 ≤ length c → 16 + length body < 2 ^ 32 → frame_body (frame_text c body ++ r) ≡ body
text_body c body r h l =
    let x = frame_text c body ++ r in
    let pad = zeros (nla_align (16 + length body) - (16 + length body)) in
    ap (λ n. take (n - 16) (drop 16 x)) (text_length c body r l)
    ∙ ap (take (16 + length body - 16)) (sym (drop-drop 12 4 x) ∙ ap (drop 12) (after_length c body r) ∙ drop_at (take 12 (drop 4 c)) _ 12 (header_size c h))
    ∙ ap (take (16 + length body - 16)) (append_assoc body pad r)
    ∙ take_at body _ (16 + length body - 16) (omega arith)

text_migrated : (c old new r : List ℕ) → 16 ≤ length c → frame_text (frame_text c old ++ r) new ≡ frame_text c new
unfolding frame_text
text_migrated c old new r h =
    ap (λ x. le4 (16 + length new) ++ (x ++ (new ++ zeros (nla_align (16 + length new) - (16 + length new))))) (text_header c old r h)

module _ (r : Rule) where
  -- the text of an accepted frame
  pub record Texted (limit : ℕ) (c : List ℕ) (frame : ℕ × List ℕ) : Type 0 where
    pub body : List ℕ
    pub body_is : body_text r (frame_type c) (frame_body c) ≡ Ok body
    pub text_is : frame.1 ≡ frame_text c body
    pub fits : 16 + length body ≤ limit

  pub texted : (limit : ℕ) (c : List ℕ) (frame : ℕ × List ℕ) → first_frame r limit c ≡ Ok frame → Texted limit c frame
  unfolding judgement
  texted limit c frame h =
      let a = accepted r limit c frame h in
      let t : judgement r limit c ≡ Ok frame = sym (checked_header_ok limit (length c) (frame_length c) (judgement r limit c) a.header (omega (arith, a.is, a.whole)) (omega (arith, a.is, a.low)) (omega (arith, a.is, a.high))) ∙ sym (first_frame_is r limit c) ∙ h in
      let q = judged_texted limit c (body_text r (frame_type c) (frame_body c)) frame t in
      record { body = q.0; body_is = q.1; text_is = q.2; fits = q.3 }

-- ---- texts that were written under r, under a rule s that migrates it

module _ (r s : Rule) (migrates : IsMigratedBy r s) where
  -- by the type of the body
  body_by : (noop error done link : Bool) (b old new : List ℕ)
      → cond noop (Ok []) (cond error (error_text b) (cond done (done_text b) (cond link (ruled_text r b) (Ok b)))) ≡ Ok old
      → cond noop (Ok []) (cond error (error_text b) (cond done (done_text b) (cond link (ruled_text s b) (Ok b)))) ≡ Ok new
      → cond noop (Ok []) (cond error (error_text old) (cond done (done_text old) (cond link (ruled_text s old) (Ok old)))) ≡ Ok new
  body_by true error done link b old new h k = k
  body_by false true done link b old new h k = error_idempotent b old h ∙ sym h ∙ k
  body_by false false true link b old new h k = done_idempotent b old h ∙ sym h ∙ k
  body_by false false false true b old new h k = ruled_migrated r s migrates b old new h k
  body_by false false false false b old new h k = sym h ∙ k

  -- the old text of a body has the new text of the body
  pub body_migrated : (t : ℕ) (b old new : List ℕ) → body_text r t b ≡ Ok old → body_text s t b ≡ Ok new → body_text s t old ≡ Ok new
  unfolding body_text
  body_migrated t b old new h k = body_by (eqb t 1) (eqb t 2) (eqb t 3) (is_link_type t) b old new h k

  -- a frame that begins with the old text of a frame is accepted, and its text is the new one
  pub first_frame_migrated : (limit : ℕ) (c : List ℕ) (old new : ℕ × List ℕ) (more : List ℕ) → limit < 2 ^ 32 → first_frame r limit c ≡ Ok old → first_frame s limit c ≡ Ok new →
      (n : ℕ) × (first_frame s limit (old.1 ++ more) ≡ Ok (n, new.1)) × (drop (nla_align n) (old.1 ++ more) ≡ more)
  unfolding judgement
  first_frame_migrated limit c old new more l h k =
      let a = accepted r limit c old h in
      let t = texted r limit c old h in
      let u = texted s limit c new k in
      let x = frame_text c t.body ++ more in
      let n : ℕ = 16 + length t.body in
      let size = frame_text_size c t.body a.header in
      let total = length-append (frame_text c t.body) more in
      let claimed = text_length c t.body more (omega (arith, t.fits)) in
      let migrated_text : body_text s (frame_type x) (frame_body x) ≡ Ok u.body =
      ap (λ k. body_text s k (frame_body x)) (text_type c t.body more a.header) ∙ ap (body_text s (frame_type c)) (text_body c t.body more a.header (omega (arith, t.fits)))
      ∙ body_migrated (frame_type c) (frame_body c) t.body u.body t.body_is u.body_is in
      let judged : judgement s limit x ≡ Ok (n, frame_text c u.body) =
      ap (judged_text limit x) migrated_text
      ∙ ap (λ b. cond b (Err TextOverLimit) (Ok (frame_length x, frame_text x u.body))) (le-ltb limit (16 + length u.body) u.fits)
      ∙ ap (λ m. Ok (m, frame_text x u.body)) claimed
      ∙ ap (λ y. Ok (n, y)) (text_migrated c t.body u.body more a.header) in
      let whole : first_frame s limit x ≡ Ok (n, frame_text c u.body) =
      first_frame_is s limit x
      ∙ checked_header_ok limit (length x) (frame_length x) (judgement s limit x) (omega (arith, size, total)) (omega (arith, size, total, claimed)) (omega (arith, claimed)) (omega (arith, claimed, t.fits))
      ∙ judged in
      let e = t.text_is in (
        n,
        subst (λ (y : List ℕ). first_frame s limit (y ++ more) ≡ Ok (n, new.1)) (sym e) (whole ∙ ap (λ y. Ok (n, y)) (sym u.text_is)),
        subst (λ (y : List ℕ). drop (nla_align n) (y ++ more) ≡ more) (sym e) (drop_at (frame_text c t.body) more (nla_align n) size),
      )

  -- the old texts are legal, and have the new texts
  abbrev TextsMigrate : ℕ → List ℕ → Type 0
  TextsMigrate limit c = IsLegal s limit (texts r limit c) × (texts s limit (texts r limit c) ≡ texts s limit c)

  step_migrated : (limit : ℕ) (c : List ℕ) (old new : ℕ × List ℕ) → limit < 2 ^ 32 → first_frame r limit c ≡ Ok old → first_frame s limit c ≡ Ok new → old.0 ≡ new.0 → TextsMigrate limit (drop (nla_align old.0) c) → TextsMigrate limit c
  step_migrated limit c old new l h k e i =
      let rest : List ℕ = texts r limit (drop (nla_align old.0) c) in
      let f = first_frame_migrated limit c old new rest l h k in
      let text : texts r limit c ≡ old.1 ++ rest = texts_step r limit c old h in
      let new_rest : texts s limit (drop (nla_align old.0) c) ≡ texts s limit (drop (nla_align new.0) c) = ap (λ n. texts s limit (drop (nla_align n) c)) e in (
        ap (first_fault s limit) text
            ∙ fault_step s limit (old.1 ++ rest) (f.0, new.1) f.1
            ∙ ap (λ x. shifted (nla_align f.0) (first_fault s limit x)) f.2
            ∙ ap (shifted (nla_align f.0)) i.0,
        ap (texts s limit) text
            ∙ texts_step s limit (old.1 ++ rest) (f.0, new.1) f.1
            ∙ ap (λ x. new.1 ++ texts s limit x) f.2
            ∙ ap (λ x. new.1 ++ x) (i.1 ∙ new_rest)
            ∙ sym (texts_step s limit c new k),
      )

  -- this holds if whole frames reach the same offset under both rules
  pub texts_idempotent : (limit : ℕ) (c : List ℕ) → limit < 2 ^ 32 → end_offset r limit c ≡ end_offset s limit c → TextsMigrate limit c
  texts_idempotent limit c l =
      by_frames r limit (λ c. end_offset r limit c ≡ end_offset s limit c → TextsMigrate limit c)
      (λ c old h more e.
      elim (seen (first_frame s limit c)) [
        | inl v ↦
            let n : old.0 ≡ v.0.0 = sym (accepted r limit c old h).is ∙ (accepted s limit c v.0 v.1).is in
            let there = ap (λ m. end_offset s limit (drop (nla_align m) c)) n in
            step_migrated limit c old v.0 l h v.1 n (more (omega (arith, e, n, there, end_step r limit c old h, end_step s limit c v.0 v.1)))
        | inr v ↦ absurd (omega (arith, e, (accepted r limit c old h).low, end_step r limit c old h, end_stop s limit c v.0 v.1))
      ])
      (λ c kind h e.
      elim (seen (first_frame s limit c)) [
        | inl v ↦ absurd (omega (arith, e, (accepted s limit c v.0 v.1).low, end_stop r limit c kind h, end_step s limit c v.0 v.1))
        | inr v ↦
            let none = texts_stop r limit c kind h in
            (ap (first_fault s limit) none ∙ fault_nil s limit, ap (texts s limit) none ∙ texts_nil s limit ∙ sym (texts_stop s limit c v.0 v.1))
      ]) c
