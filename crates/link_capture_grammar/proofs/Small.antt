-- Texts are at most 77 times as long.
use Rattle.std.proofs.Common.{◌≡◌, ℕ, ◌+◌, ◌-◌, ◌*◌, ◌≤◌, ltb, eqb, List, [], ◌∷◌, length, drop, Ok, ap, subst, inl, inr, arith, length-append, length-drop}
use Rattle.std.proofs.lemmas.List.{length-take-le}
use Rattle.netlink_packet_core_grammar.specs.Attributes.{nla_align}
use Rattle.netlink_packet_core_grammar.specs.Frames.{frame_length, frame_type, frame_body}
use Rattle.attribute_tables_grammar.specs.Rules.{Rule, Lawful}
use Rattle.link_capture_grammar.specs.Bodies.{error_text, done_text, ruled_text, body_text}
use Rattle.link_capture_grammar.specs.Captures.{first_frame, texts}
use Rattle.link_capture_grammar.proofs.Bodies.{by_type}
use Rattle.link_capture_grammar.proofs.Frames.{guard, accepted, by_frames, texts_step, texts_stop}
use Rattle.link_capture_grammar.proofs.Normal.{ruled, texted, frame_text_size}

-- a body's text, with a header of 4 bytes and padding, is at most 77 times as long as the body with one
same_size : (a b : List ℕ) → a ≡ b → nla_align (4 + length b) ≤ 77 * (4 + length a)
same_size a b e = let l = ap length e in omega (arith, l)

error_small : (b text : List ℕ) → error_text b ≡ Ok text → nla_align (4 + length text) ≤ 77 * (4 + length b)
error_small b text h =
    elim (guard (ltb (length b) 4) _ _ _ h) [
      | inl a ↦ (let f = a.1 in absurd (cc))
      | inr a ↦ same_size b text (let f = a.1 in cc)
    ]

done_small : (b text : List ℕ) → done_text b ≡ Ok text → nla_align (4 + length text) ≤ 77 * (4 + length b)
done_small b text h =
    elim (guard (eqb (length b) 0) _ _ _ h) [
      | inl a ↦ (let e : (0 ∷ 0 ∷ 0 ∷ 0 ∷ []) ≡ text = (let f = a.1 in cc) in let l = ap length e in omega (arith, l))
      | inr a ↦ error_small b text a.1
    ]

module _ (r : Rule) (lawful : Lawful r) where
  ruled_small : (b text : List ℕ) → ruled_text r b ≡ Ok text → nla_align (4 + length text) ≤ 77 * (4 + length b)
  ruled_small b text h =
      let k = ruled r b text h in
      subst (λ (x : List ℕ). nla_align (4 + length x) ≤ 77 * (4 + length b)) k.is (lawful.bounded b k.accepted)

  body_small : (t : ℕ) (b text : List ℕ) → body_text r t b ≡ Ok text → nla_align (4 + length text) ≤ 77 * (4 + length b)
  body_small = by_type r (λ text same attributes. (b x : List ℕ) → text b ≡ Ok x → nla_align (4 + length x) ≤ 77 * (4 + length b))
      (λ b x h. let e : [] ≡ x = cc in omega (arith, ap length e))
      error_small done_small ruled_small (λ b x h. same_size b x cc)

  frame_small : (limit : ℕ) (c : List ℕ) (frame : ℕ × List ℕ) → first_frame r limit c ≡ Ok frame → length frame.1 ≤ 77 * frame.0
  frame_small limit c frame h =
      let a = accepted r limit c frame h in
      let t = texted r limit c frame h in
      let l = ap length t.text_is in
      let size = frame_text_size c t.body a.header in
      let small = body_small (frame_type c) (frame_body c) t.body t.body_is in
      let rest = length-drop 16 c in
      let body = length-take-le (frame_length c - 16) (drop 16 c) (omega (arith, rest, a.is, a.whole)) in
      omega (arith, l, size, small, body, a.is, a.low)

  pub texts_small : (limit : ℕ) (c : List ℕ) → length (texts r limit c) ≤ 77 * length c
  texts_small limit =
      by_frames r limit (λ c. length (texts r limit c) ≤ 77 * length c)
      (λ c frame h following.
      let a = accepted r limit c frame h in
      let rest = drop (nla_align frame.0) c in
      omega (arith, a.low, a.whole, frame_small limit c frame h, ap length (texts_step r limit c frame h), length-append frame.1 (texts r limit rest), following, length-drop (nla_align frame.0) c))
      (λ c kind h. omega (arith, ap length (texts_stop r limit c kind h)))
