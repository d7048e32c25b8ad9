-- What the text of a legal frame keeps of the frame.
use Rattle.std.proofs.Common.{◌≡◌, ℕ, ◌-◌, eqb, min, true, List, [], ◌++◌, length, take, drop, Ok, inl, inr, sym, ap, ◌∙◌, arith, length-drop}
use Rattle.std.proofs.lemmas.Bool.{ne_eqb, eqb-true, cases_Bool}
use Rattle.std.proofs.lemmas.List.{append-nil, length-take}
use Rattle.netlink_packet_core_grammar.specs.Frames.{frame_length, frame_type, frame_body, frame_text}
use Rattle.attribute_tables_grammar.specs.Rules.{Rule}
use Rattle.link_capture_grammar.specs.Bodies.{is_link_type, body_text}
use Rattle.link_capture_grammar.specs.Captures.{first_frame}
use Rattle.link_capture_grammar.specs.Laws.{IsLimit, IsBodyKept, TextsKeepFrames}
use Rattle.link_capture_grammar.proofs.Frames.{accepted}
use Rattle.link_capture_grammar.proofs.Normal.{ruled, text_body, text_header, text_length, texted}
use Rattle.link_capture_grammar.proofs.Same.{error_is}
use Rattle.link_capture_grammar.proofs.SameFrames.{yes, no, link_ruled}

-- the text of a frame with nothing appended
frame_text_end : (c body : List ℕ) → frame_text c body ++ [] ≡ frame_text c body
frame_text_end c body = append-nil (frame_text c body)

module _ (r : Rule) where
  kept : (t : ℕ) (b text : List ℕ) → IsBodyKept t b → body_text r t b ≡ Ok text → b ≡ text
  unfolding body_text
  kept t b text k h =
      let other = no (eqb t 1) _ _ _ (ne_eqb t 1 k.no_noop) h in
      elim (cases_Bool (eqb t 2)) [
        | inl e ↦ error_is b text (yes (eqb t 2) _ _ _ e other)
        | inr e ↦
            let rest = no (eqb t 2) _ _ _ e other in
            elim (cases_Bool (eqb t 3)) [
              | inl d ↦
                  let size = k.has_code (eqb-true t 3 d) in
                  error_is b text (no (eqb (length b) 0) _ _ _ (ne_eqb (length b) 0 (λ z. absurd (omega (arith, size, z)))) (yes (eqb t 3) _ _ _ d rest))
              | inr d ↦ (let f = no (is_link_type t) _ _ _ k.no_link (no (eqb t 3) _ _ _ d rest) in cc)
            ]
      ]

  header : (limit : ℕ) (c : List ℕ) (frame : ℕ × List ℕ) → first_frame r limit c ≡ Ok frame → take 12 (drop 4 frame.1) ≡ take 12 (drop 4 c)
  header limit c frame h =
      let t = texted r limit c frame h in
      ap (λ x. take 12 (drop 4 x)) (t.text_is ∙ sym (frame_text_end c t.body)) ∙ text_header c t.body [] (accepted r limit c frame h).header

  length' : (limit : ℕ) (c : List ℕ) (frame : ℕ × List ℕ) → IsLimit limit → IsBodyKept (frame_type c) (frame_body c) → first_frame r limit c ≡ Ok frame → frame_length frame.1 ≡ frame_length c
  length' limit c frame l k h =
      let t = texted r limit c frame h in
      let a = accepted r limit c frame h in
      let e = ap length (kept (frame_type c) (frame_body c) t.body k t.body_is) in
      let n : length (frame_body c) ≡ min (frame_length c - 16) (length (drop 16 c)) = length-take (frame_length c - 16) (drop 16 c) in
      ap frame_length (t.text_is ∙ sym (frame_text_end c t.body)) ∙ text_length c t.body [] (omega (arith, t.fits, l)) ∙ omega (arith, e, n, length-drop 16 c, a.low, a.whole, a.is)

  -- the body of a frame's text is the body's text
  body_there : (limit : ℕ) (c : List ℕ) (frame : ℕ × List ℕ) → IsLimit limit → (h : first_frame r limit c ≡ Ok frame) → frame_body frame.1 ≡ (texted r limit c frame h).body
  body_there limit c frame l h =
      let t = texted r limit c frame h in
      ap frame_body (t.text_is ∙ sym (frame_text_end c t.body)) ∙ text_body c t.body [] (accepted r limit c frame h).header (omega (arith, t.fits, l))

  body : (limit : ℕ) (c : List ℕ) (frame : ℕ × List ℕ) → IsLimit limit → IsBodyKept (frame_type c) (frame_body c) → first_frame r limit c ≡ Ok frame → frame_body frame.1 ≡ frame_body c
  body limit c frame l k h =
      let t = texted r limit c frame h in
      body_there limit c frame l h ∙ sym (kept (frame_type c) (frame_body c) t.body k t.body_is)

  pub link : (limit : ℕ) (c : List ℕ) (frame : ℕ × List ℕ) → IsLimit limit → is_link_type (frame_type c) ≡ true → first_frame r limit c ≡ Ok frame → (r.accepted (frame_body c) ≡ true) × (frame_body frame.1 ≡ r.canonical (frame_body c))
  link limit c frame l is_link h =
      let t = texted r limit c frame h in
      let k = ruled r (frame_body c) t.body (link_ruled r (frame_type c) (frame_body c) t.body is_link t.body_is) in
      (k.accepted, body_there limit c frame l h ∙ sym k.is)

  pub texts_keep_frames : TextsKeepFrames r
  texts_keep_frames = record { header = header; length = length'; body = body; link = link }
