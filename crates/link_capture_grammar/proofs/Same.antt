-- A legal capture and its normal text mean the same; captures that mean the same are legal.
use Rattle.std.proofs.Common.{◌≡◌, ℕ, zero, suc, ◌^◌, ◌<◌, eqb, ltb, true, List, [], ◌∷◌, ◌++◌, length, take, drop, Option, None, Some, Ok, Err, refl, sym, ap, subst, ◌∙◌, inl, inr, arith}
use Rattle.std.specs.Prelude.{bytes_eq}
use Rattle.std.proofs.lemmas.Slice.Eq.{bytes_eq-Decides}
use Rattle.netlink_packet_core_grammar.specs.Attributes.{nla_align}
use Rattle.netlink_packet_core_grammar.specs.Frames.{frame_type, frame_body, frame_text}
use Rattle.attribute_tables_grammar.specs.Rules.{Rule, Lawful}
use Rattle.attribute_tables_grammar.proofs.Attributes.{migrates_reflexive}
use Rattle.attribute_tables_grammar.proofs.Together.{keeps_meaning}
use Rattle.link_capture_grammar.specs.declared.fault.CaptureFault.{CaptureFault}
use Rattle.link_capture_grammar.specs.declared.fault.FaultKind.{FaultKind}
use Rattle.link_capture_grammar.specs.Bodies.{error_text, done_text, ruled_text, body_text}
use Rattle.link_capture_grammar.specs.Captures.{first_frame, next_split, shifted, split, first_fault, texts, IsLegal}
use Rattle.link_capture_grammar.specs.Same.{done_body, same_body, SameFrame, SameFrames, SameCapture}
use Rattle.link_capture_grammar.specs.Laws.{TextsMeanTheSame, SameAreLegal}
use Rattle.link_capture_grammar.proofs.Bodies.{by_type}
use Rattle.link_capture_grammar.proofs.Frames.{HasFrameOf, accepted, by_frames, guard, fault_step, fault_stop, no_frames, own_bytes, seen, split_nil, split_step, texts_step, texts_stop, fault_nil}
use Rattle.link_capture_grammar.proofs.Normal.{ruled, texted, text_header, text_body, first_frame_migrated}

-- ---- a body and its text

pub equal_bytes : (a b : List ℕ) → a ≡ b → bytes_eq a b ≡ true
equal_bytes a b h = (bytes_eq-Decides a b).1 h

pub error_is : (b text : List ℕ) → error_text b ≡ Ok text → b ≡ text
error_is b text h =
    elim (guard (ltb (length b) 4) _ _ _ h) [
      | inl k ↦ (let f = k.1 in absurd cc)
      | inr k ↦ (let f = k.1 in cc)
    ]

done_is : (b text : List ℕ) → done_text b ≡ Ok text → done_body b ≡ done_body text
done_is b text h =
    elim (guard (eqb (length b) 0) _ _ _ h) [
      | inl k ↦ (let e : (0 ∷ 0 ∷ 0 ∷ 0 ∷ []) ≡ text = (let f = k.1 in cc) in rw k.0 (ap done_body e))
      | inr k ↦ ap done_body (error_is b text k.1)
    ]

-- ---- steps

pub not_shifted : (k : ℕ) (f : Option CaptureFault) → shifted k f ≡ None → f ≡ None
not_shifted k None h = refl
not_shifted k (Some fault) h = absurd cc

-- ---- two captures in step

-- the captures a and b have n frames each, none with a fault, and the frames mean the same in pairs
abbrev pub InStep : Rule → ℕ → ℕ → List ℕ → List ℕ → Type 0
InStep r limit zero a b = (a ≡ []) × (b ≡ [])
InStep r limit (suc n) a b =
    (x y : ℕ × List ℕ) × (first_frame r limit a ≡ Ok x) × (first_frame r limit b ≡ Ok y)
    × SameFrame r a b
    × InStep r limit n (drop (nla_align x.0) a) (drop (nla_align y.0) b)

abbrev pub InSteps : Rule → ℕ → List ℕ → List ℕ → Type 0
InSteps r limit a b = (n : ℕ) × InStep r limit n a b

module _ (r : Rule) where
  both_legal : (limit n : ℕ) (a b : List ℕ) → InStep r limit n a b → IsLegal r limit a × IsLegal r limit b
  both_legal limit zero a b s = (ap (first_fault r limit) s.0 ∙ fault_nil r limit, ap (first_fault r limit) s.1 ∙ fault_nil r limit)
  both_legal limit (suc n) a b s =
      let x = s.0 in
      let y = s.1 in
      let i = both_legal limit n (drop (nla_align x.0) a) (drop (nla_align y.0) b) s.5 in
      (fault_step r limit a x s.2 ∙ ap (shifted (nla_align x.0)) i.0, fault_step r limit b y s.3 ∙ ap (shifted (nla_align y.0)) i.1)

  -- frames with these headers and bodies mean the same too
  same_through : (a b e f : List ℕ) → HasFrameOf e a → HasFrameOf f b → SameFrame r e f → SameFrame r a b
  same_through a b e f o p s = record {
    header = sym o.header ∙ s.header ∙ p.header;
    body =
        ap (λ t. same_body r t (frame_body a) (frame_body b)) (sym o.type)
        ∙ ap (λ x. same_body r (frame_type e) x (frame_body b)) (sym o.body)
        ∙ ap (same_body r (frame_type e) (frame_body e)) (sym p.body)
        ∙ s.body;
  }

  in_turn : (e a : List ℕ) → HasFrameOf e a → HasFrameOf a e
  in_turn e a o = record { header = sym o.header; type = sym o.type; body = sym o.body }

  pairs : (limit n : ℕ) (a b : List ℕ) → InStep r limit n a b → SameFrames r (split r limit a).frames (split r limit b).frames
  pairs limit zero a b s =
      subst (λ a. SameFrames r (split r limit a).frames (split r limit b).frames) (sym s.0)
      (subst (λ b. SameFrames r (split r limit []).frames (split r limit b).frames) (sym s.1)
      (subst (λ z. SameFrames r z.frames z.frames) (sym (split_nil r limit)) tt))
  pairs limit (suc n) a b s =
      let x = s.0 in
      let y = s.1 in
      let first = same_through (take x.0 a) (take y.0 b) a b (in_turn _ a (own_bytes r limit a x s.2)) (in_turn _ b (own_bytes r limit b y s.3)) s.4 in
      subst (λ z. SameFrames r z.frames (split r limit b).frames) (sym (split_step r limit a x s.2))
      (subst (λ z. SameFrames r (next_split (Ok x) a (split r limit)).frames z.frames) (sym (split_step r limit b y s.3))
      (first, pairs limit n (drop (nla_align x.0) a) (drop (nla_align y.0) b) s.5))

  -- Captures in step mean the same.
  pub of_steps : (limit : ℕ) (a b : List ℕ) → InSteps r limit a b → SameCapture r limit a b
  of_steps limit a b s = let l = both_legal limit s.0 a b s.1 in (l.0, l.1, pairs limit s.0 a b s.1)

  pub no_bytes : (limit : ℕ) (c : List ℕ) (kind : FaultKind) → first_frame r limit c ≡ Err kind → IsLegal r limit c → c ≡ []
  no_bytes limit [] kind h legal = refl
  no_bytes limit (b ∷ c) kind h legal = absurd (let e = sym (fault_stop r limit (b ∷ c) kind (omega arith) h) ∙ legal in cc)

  -- Captures that mean the same are in step.
  pub to_steps : (limit : ℕ) (a b : List ℕ) → SameCapture r limit a b → InSteps r limit a b
  to_steps limit a b s =
      by_frames r limit (λ a. (b : List ℕ) → SameCapture r limit a b → InSteps r limit a b)
      (λ a x h more b s.
      elim (seen (first_frame r limit b)) [
        | inl w ↦
            let y = w.0 in
            let there = subst (λ z. SameFrames r (next_split (Ok x) a (split r limit)).frames z.frames) (split_step r limit b y w.1)
            (subst (λ z. SameFrames r z.frames (split r limit b).frames) (split_step r limit a x h) s.2) in
            let left = not_shifted (nla_align x.0) _ (sym (fault_step r limit a x h) ∙ s.0) in
            let right = not_shifted (nla_align y.0) _ (sym (fault_step r limit b y w.1) ∙ s.1) in
            let i = more (drop (nla_align y.0) b) (left, right, there.1) in
            let first = same_through a b (take x.0 a) (take y.0 b) (own_bytes r limit a x h) (own_bytes r limit b y w.1) there.0 in
            (suc i.0, (x, y, h, w.1, first, i.1))
        | inr w ↦
            absurd (subst (λ z. SameFrames r (next_split (Ok x) a (split r limit)).frames z) (no_frames r limit b w.0 w.1)
            (subst (λ z. SameFrames r z.frames (split r limit b).frames) (split_step r limit a x h) s.2))
      ])
      (λ a kind h b s.
      elim (seen (first_frame r limit b)) [
        | inl w ↦
            absurd (subst (λ z. SameFrames r [] z.frames) (split_step r limit b w.0 w.1)
            (subst (λ z. SameFrames r z (split r limit b).frames) (no_frames r limit a kind h) s.2))
        | inr w ↦ (0, (no_bytes limit a kind h s.0, no_bytes limit b w.0 w.1 s.1))
      ]) a b s

  pub same_are_legal : SameAreLegal r
  same_are_legal limit a b s = (s.0, s.1)

module _ (r : Rule) (lawful : Lawful r) where
  ruled_same : (b text : List ℕ) → ruled_text r b ≡ Ok text → r.same b text ≡ true
  ruled_same b text h =
      let k = ruled r b text h in
      subst (λ x. r.same b x ≡ true) k.is (keeps_meaning r lawful b k.accepted k.empty_ports)

  text_same : (t : ℕ) (b text : List ℕ) → body_text r t b ≡ Ok text → same_body r t b text ≡ true
  text_same = by_type r (λ text same attributes. (b x : List ℕ) → text b ≡ Ok x → same b x ≡ true)
      (λ b x h. refl)
      (λ b x h. equal_bytes b x (error_is b x h))
      (λ b x h. equal_bytes (done_body b) (done_body x) (done_is b x h))
      ruled_same
      (λ b x h. equal_bytes b x cc)

  -- ---- a frame and its text

  frame_same : (limit : ℕ) (c : List ℕ) (frame : ℕ × List ℕ) (more : List ℕ) → limit < 2 ^ 32 → first_frame r limit c ≡ Ok frame → SameFrame r c (frame.1 ++ more)
  frame_same limit c frame more l h =
      let a = accepted r limit c frame h in
      let t = texted r limit c frame h in
      let body : frame_body (frame_text c t.body ++ more) ≡ t.body = text_body c t.body more a.header (omega (arith, t.fits)) in
      subst (λ (y : List ℕ). SameFrame r c (y ++ more)) (sym t.text_is) (record {
        header = sym (text_header c t.body more a.header);
        body = ap (same_body r (frame_type c) (frame_body c)) body ∙ text_same (frame_type c) (frame_body c) t.body t.body_is;
      })

  -- ---- a capture and its normal text

  pub texts_in_step : (limit : ℕ) (c : List ℕ) → limit < 2 ^ 32 → IsLegal r limit c → InSteps r limit c (texts r limit c)
  texts_in_step limit c l =
      by_frames r limit (λ c. IsLegal r limit c → InSteps r limit c (texts r limit c))
      (λ c frame h following legal.
      let rest = texts r limit (drop (nla_align frame.0) c) in
      let f = first_frame_migrated r r (migrates_reflexive r lawful) limit c frame frame rest l h h in
      let i = following (not_shifted (nla_align frame.0) _ (sym (fault_step r limit c frame h) ∙ legal)) in
      let there : InStep r limit i.0 (drop (nla_align frame.0) c) (drop (nla_align f.0) (frame.1 ++ rest)) =
      subst (λ (y : List ℕ). InStep r limit i.0 (drop (nla_align frame.0) c) y) (sym f.2) i.1 in
      subst (λ (y : List ℕ). InSteps r limit c y) (sym (texts_step r limit c frame h)) (suc i.0, (frame, (f.0, frame.1), h, f.1, frame_same limit c frame rest l h, there)))
      (λ c kind h legal. (0, (no_bytes r limit c kind h legal, texts_stop r limit c kind h))) c

  pub texts_mean_the_same : TextsMeanTheSame r
  texts_mean_the_same limit c l legal = of_steps r limit c (texts r limit c) (texts_in_step limit c l legal)
