-- Legal captures mean the same if their frames do.
use Rattle.std.proofs.Common.{◌≡◌, ℕ, zero, suc, ◌<◌, ◌≤◌, eqb, Bool, true, false, cond, List, [], ◌∷◌, ◌++◌, length, take, drop, Ok, inl, inr, refl, sym, ap, subst, ◌∙◌, arith}
use Rattle.std.specs.Prelude.{nat_le}
use Rattle.std.proofs.lemmas.Bool.{ne_eqb, leb-true, and_parts}
use Rattle.std.proofs.lemmas.List.{take-append-drop}
use Rattle.netlink_packet_core_grammar.specs.Attributes.{nla_align}
use Rattle.netlink_packet_core_grammar.specs.Frames.{frame_length, frame_type, frame_body}
use Rattle.attribute_tables_grammar.specs.Rules.{Rule, Lawful}
use Rattle.link_capture_grammar.specs.Bodies.{ruled_text, is_link_type, body_text}
use Rattle.link_capture_grammar.specs.Captures.{first_frame, IsLegal}
use Rattle.link_capture_grammar.specs.Laws.{LegalFrame, NeedsHeaders, SamenessUnfoldsByFrames}
use Rattle.link_capture_grammar.specs.Same.{same_body, SameFrame}
use Rattle.link_capture_grammar.proofs.Frames.{accepted, fault_step, fault_stop, first_frame-more, first_frame-take, frame_body-more, frame_header-more, seen}
use Rattle.link_capture_grammar.proofs.Meanings.{body_determines}
use Rattle.link_capture_grammar.proofs.Normal.{ruled, texted}
use Rattle.link_capture_grammar.proofs.Same.{InStep, InSteps, not_shifted, of_steps, to_steps}

-- a test whose result is known
pub yes : {A : Type 0} (b : Bool) (x y z : A) → b ≡ true → cond b x y ≡ z → x ≡ z
yes b x y z k h = subst (λ c. cond c x y ≡ z) k h

pub no : {A : Type 0} (b : Bool) (x y z : A) → b ≡ false → cond b x y ≡ z → y ≡ z
no b x y z k h = subst (λ c. cond c x y ≡ z) k h

module _ (r : Rule) where
  -- a link's body has the text of its rule
  pub link_ruled : (t : ℕ) (b x : List ℕ) → is_link_type t ≡ true → body_text r t b ≡ Ok x → ruled_text r b ≡ Ok x
  unfolding body_text
  link_ruled t b x h g =
      let l = leb-true 16 t (and_parts (nat_le 16 t) (nat_le t 19) h).0 in
      let other : (k : ℕ) → k < 16 → t ≡ k → ⊥ = λ k m e. absurd (omega (arith, e, l, m)) in
      yes (is_link_type t) _ _ _ h
      (no (eqb t 3) _ _ _ (ne_eqb t 3 (other 3 (omega arith)))
      (no (eqb t 2) _ _ _ (ne_eqb t 2 (other 2 (omega arith)))
      (no (eqb t 1) _ _ _ (ne_eqb t 1 (other 1 (omega arith))) g)))

  following : (limit : ℕ) (c : List ℕ) → IsLegal r limit c → LegalFrame r limit c → IsLegal r limit (drop (nla_align (frame_length c)) c)
  following limit c h p = not_shifted (nla_align (frame_length c)) _ (sym (fault_step r limit c (frame_length c, p.text) p.is) ∙ h)

module _ (r : Rule) (limit : ℕ) (a b : List ℕ) (p : LegalFrame r limit a) (q : LegalFrame r limit b) where
  onto : SameFrame r a b → InSteps r limit (drop (nla_align (frame_length a)) a) (drop (nla_align (frame_length b)) b) → InSteps r limit a b
  onto h s = (suc s.0, ((frame_length a, p.text), (frame_length b, q.text), p.is, q.is, h, s.1))

  apart : InSteps r limit a b → SameFrame r a b × InSteps r limit (drop (nla_align (frame_length a)) a) (drop (nla_align (frame_length b)) b)
  apart (zero, s) = absurd (let e : length a ≡ 0 = ap length s.0 in omega (arith, e, p.frame.has_header))
  apart (suc n, s) =
      let x = accepted r limit a s.0 s.2 in
      let y = accepted r limit b s.1 s.3 in
      (s.4, (n, subst (λ k. InStep r limit n (drop (nla_align k) a) (drop (nla_align (frame_length b)) b)) (sym x.is) (subst (λ k. InStep r limit n (drop (nla_align s.0.0) a) (drop (nla_align k) b)) (sym y.is) s.5)))

-- ---- the first frame, under a rule that accepts no body without a header

module _ (r : Rule) (headers : NeedsHeaders r) where
  link_header : (t : ℕ) (b x : List ℕ) → body_text r t b ≡ Ok x → is_link_type t ≡ true → 16 ≤ length b
  link_header t b x g h = headers b (ruled r b x (link_ruled r t b x h g)).accepted

  judged : (limit : ℕ) (c : List ℕ) (frame : ℕ × List ℕ) → first_frame r limit c ≡ Ok frame → LegalFrame r limit c
  judged limit c frame h =
      let a = accepted r limit c frame h in
      let t = texted r limit c frame h in
      record {
        text = frame.1;
        is = h ∙ ap (λ n. Ok (n, frame.1)) (sym a.is);
        frame = record { has_header = a.header; covers_header = omega (arith, a.low, a.is); within = omega (arith, a.whole, a.is) };
        body = link_header (frame_type c) (frame_body c) t.body t.body_is;
      }

  leading : (limit : ℕ) (c : List ℕ) → IsLegal r limit c → 0 < length c → LegalFrame r limit c
  leading limit c h l =
      elim (seen (first_frame r limit c)) [
        | inl w ↦ judged limit c w.0 w.1
        | inr w ↦ (let e = sym (fault_stop r limit c w.0 l w.1) ∙ h in absurd cc)
      ]

-- two frames with equal bytes
module _ (r : Rule) (limit : ℕ) (a b : List ℕ) (p : LegalFrame r limit a) (e : take (frame_length a) b ≡ take (frame_length a) a) where
  abbrev frame : List ℕ
  frame = take (frame_length a) a

  first_frame_of_equal : first_frame r limit frame ≡ Ok (frame_length a, p.text)
  first_frame_of_equal = first_frame-take r limit a (frame_length a) (frame_length a, p.text) p.is (omega arith)

  is_left : frame ++ drop (frame_length a) a ≡ a
  is_left = take-append-drop (frame_length a) a

  is_right : frame ++ drop (frame_length a) b ≡ b
  is_right = ap (λ x. x ++ drop (frame_length a) b) (sym e) ∙ take-append-drop (frame_length a) b

  judged_right : first_frame r limit b ≡ Ok (frame_length a, p.text)
  judged_right = sym (ap (first_frame r limit) is_right) ∙ first_frame-more r limit frame (drop (frame_length a) b) (λ h. (let f = sym h ∙ first_frame_of_equal in absurd cc)) ∙ first_frame_of_equal

  one_header : take 12 (drop 4 a) ≡ take 12 (drop 4 b)
  one_header =
      let k = (accepted r limit frame _ first_frame_of_equal).header in
      sym (ap (λ x. take 12 (drop 4 x)) is_left) ∙ frame_header-more frame (drop (frame_length a) a) k
      ∙ sym (frame_header-more frame (drop (frame_length a) b) k) ∙ ap (λ x. take 12 (drop 4 x)) is_right

  one_body : frame_body a ≡ frame_body b
  one_body =
      let k = accepted r limit frame _ first_frame_of_equal in
      let n : frame_length frame ≤ length frame = omega (arith, k.is, k.whole) in
      sym (ap frame_body is_left) ∙ frame_body-more frame (drop (frame_length a) a) k.header n
      ∙ sym (frame_body-more frame (drop (frame_length a) b) k.header n) ∙ ap frame_body is_right

  equal : Lawful r → NeedsHeaders r → LegalFrame r limit b × SameFrame r a b
  equal lawful headers =
      let t = texted r limit a (frame_length a, p.text) p.is in (
        judged r headers limit b _ judged_right,
        record {
          header = one_header;
          body = subst (λ x. same_body r (frame_type a) (frame_body a) x ≡ true) one_body (body_determines r lawful (frame_type a) (frame_body a) (frame_body a) t.body t.body t.body_is t.body_is refl);
        },
      )

no_bytes : (a : List ℕ) → length a ≡ 0 → a ≡ []
no_bytes [] l = refl
no_bytes (x ∷ a) l = absurd (omega arith)

module _ (r : Rule) (limit : ℕ) (a b : List ℕ) where
  left_longer : 0 < length a → length b ≡ 0 → InSteps r limit a b → ⊥
  left_longer l k (zero, s) = let e : length a ≡ 0 = ap length s.0 in omega (arith, e, l)
  left_longer l k (suc n, s) = let y = (accepted r limit b s.1 s.3).header in omega (arith, y, k)

  right_longer : length a ≡ 0 → 0 < length b → InSteps r limit a b → ⊥
  right_longer l k (zero, s) = let e : length b ≡ 0 = ap length s.1 in omega (arith, e, k)
  right_longer l k (suc n, s) = let x = (accepted r limit a s.0 s.2).header in omega (arith, x, l)

pub sameness_unfolds_by_frames : (r : Rule) → Lawful r → NeedsHeaders r → SamenessUnfoldsByFrames r
sameness_unfolds_by_frames r lawful headers = record {
  judged = judged r headers;
  leading = leading r headers;
  following = following r;
  more = λ limit a b p q h. (
    λ s. of_steps r limit a b (onto r limit a b p q h (to_steps r limit _ _ s)),
    λ s. of_steps r limit _ _ (apart r limit a b p q (to_steps r limit a b s)).1,
  );
  equal = λ limit a b p e. equal r limit a b p e lawful headers;
  differs = λ limit a b p q s. (apart r limit a b p q (to_steps r limit a b s)).0;
  ended = λ limit a b l k. of_steps r limit a b (0, (no_bytes a l, no_bytes b k));
  left_longer = λ limit a b l k s. left_longer r limit a b l k (to_steps r limit a b s);
  right_longer = λ limit a b l k s. right_longer r limit a b l k (to_steps r limit a b s);
}
