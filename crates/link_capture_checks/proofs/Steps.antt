-- Two captures after another frame of each, and at their ends.
use Rattle.std.proofs.Common.{◌≡◌, ℕ, ◌<◌, Bool, true, false, eqb, List, [], ◌∷◌, length, take, drop, inl, inr, refl, sym, ap, subst, ◌∙◌, arith}
use Rattle.std.specs.Prelude.{◌↔◌, bytes_eq}
use Rattle.std.proofs.lemmas.Bool.{ne_eqb, cases_lt}
use Rattle.std.proofs.lemmas.Slice.Eq.{bytes_eq-Decides}
use Rattle.netlink_packet_core_grammar.specs.Attributes.{nla_align}
use Rattle.netlink_packet_core_grammar.specs.Frames.{frame_length}
use Rattle.link_message_grammar.specs.Body.{link_body}
use Rattle.link_capture_grammar.specs.Captures.{IsLegal}
use Rattle.link_capture_grammar.specs.Laws.{LegalFrame, SamenessUnfoldsByFrames}
use Rattle.link_capture_grammar.specs.Same.{SameFrame, SameCapture}
use Rattle.link_capture_checks.specs.Partings.{ComparisonStops}

-- a frame with the bytes of a legal frame
pub of_one_bytes : (law : SamenessUnfoldsByFrames link_body) (limit : ℕ) (a b : List ℕ) (n : ℕ) → LegalFrame link_body limit a → n ≡ frame_length a → bytes_eq (take n a) (take n b) ≡ true → LegalFrame link_body limit b × SameFrame link_body a b
of_one_bytes law limit a b n p e h = law.equal limit a b p (subst (λ k. take k b ≡ take k a) e (sym ((bytes_eq-Decides _ _).0 h)))

module _ (law : SamenessUnfoldsByFrames link_body) (limit : ℕ) (a b l r : List ℕ) (so_far : SameCapture link_body limit a b ↔ SameCapture link_body limit l r) where
  pub one_further : LegalFrame link_body limit a → LegalFrame link_body limit b → SameFrame link_body a b → (x y : List ℕ) → x ≡ drop (nla_align (frame_length a)) a → y ≡ drop (nla_align (frame_length b)) b → SameCapture link_body limit x y ↔ SameCapture link_body limit l r
  one_further p q same x y e f =
      let more = law.more limit a b p q same in (
        λ s. so_far.0 (more.0 (subst (λ z. SameCapture link_body limit z (drop (nla_align (frame_length b)) b)) e (subst (λ z. SameCapture link_body limit x z) f s))),
        λ s. subst (λ z. SameCapture link_body limit z y) (sym e) (subst (λ z. SameCapture link_body limit (drop (nla_align (frame_length a)) a) z) (sym f) (more.1 (so_far.1 s))),
      )

  -- both captures have another frame, but these aren't both legal and equivalent
  pub frames_differ : IsLegal link_body limit a → IsLegal link_body limit b → ComparisonStops limit a b → 0 < length b → SameCapture link_body limit l r → ⊥
  frames_differ h k parts n s =
      let t = so_far.1 s in
      elim (cases_lt 0 (length a)) [
        | inl m ↦ (let p = law.leading limit a h m in let q = law.leading limit b k n in parts m n q (law.differs limit a b p q t))
        | inr m ↦ law.right_longer limit a b (omega (arith, m)) n t
      ]

  -- the right capture has ended: the result is whether the left one has ended too
  pub right_ended : length b ≡ 0 → (is_same : Bool) → is_same ≡ eqb (length a) 0 → (is_same ≡ true) ↔ SameCapture link_body limit l r
  right_ended k is_same is = by a refl where
    by : (z : List ℕ) → z ≡ a → (is_same ≡ true) ↔ SameCapture link_body limit l r
    by [] e = (λ _. so_far.0 (law.ended limit a b (sym (ap length e)) k), λ _. is ∙ ap (λ z. eqb (length z) 0) (sym e))
    by (x ∷ z) e =
        let n : 0 < length a = subst (λ y. 0 < length y) e (omega arith) in
        let other : is_same ≡ false = is ∙ ne_eqb (length a) 0 (λ h. absurd (omega (arith, h, n))) in
        (λ h. absurd cc, λ s. absurd (law.left_longer limit a b n k (so_far.1 s)))
