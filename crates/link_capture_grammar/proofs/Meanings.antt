-- Captures that mean the same have equal normal texts, and legal captures with equal normal texts mean the same.
use Rattle.std.proofs.Common.{◌≡◌, ℕ, zero, suc, ◌+◌, ◌-◌, ◌^◌, ◌<◌, ◌≤◌, eqb, true, List, [], ◌++◌, length, take, drop, Ok, refl, sym, ap, subst, ◌∙◌, inl, inr, arith}
use Rattle.std.specs.Prelude.{bytes_eq}
use Rattle.std.proofs.lemmas.List.{take-append-drop}
use Rattle.std.proofs.lemmas.Slice.Eq.{bytes_eq-Decides}
use Rattle.netlink_packet_core_grammar.specs.Attributes.{nla_align, zeros}
use Rattle.netlink_packet_core_grammar.specs.Numbers.{u16_at, le4}
use Rattle.netlink_packet_core_grammar.specs.Frames.{frame_type, frame_body, frame_text}
use Rattle.netlink_packet_core_grammar.proofs.Numbers.{u16_at-append, u16_at-drop_4}
use Rattle.attribute_tables_grammar.specs.Rules.{Rule, Lawful}
use Rattle.link_capture_grammar.specs.Bodies.{done_text, ruled_text, body_text}
use Rattle.link_capture_grammar.specs.Captures.{first_frame, texts, IsLegal}
use Rattle.link_capture_grammar.specs.Laws.{BodyTextsDetermineMeanings, TextsDetermineMeanings}
use Rattle.link_capture_grammar.specs.Same.{done_body, same_body, SameFrame}
use Rattle.link_capture_grammar.proofs.Bodies.{by_type}
use Rattle.link_capture_grammar.proofs.Frames.{accepted, guard, texts_step}
use Rattle.link_capture_grammar.proofs.Normal.{header_size, ruled, texted}
use Rattle.link_capture_grammar.proofs.Same.{InStep, InSteps, equal_bytes, error_is, of_steps, texts_in_step, to_steps}

-- ---- bodies and first frames

bytes_from : (a b : List ℕ) → bytes_eq a b ≡ true → a ≡ b
bytes_from a b h = (bytes_eq-Decides a b).0 h

done_text_is : (b text : List ℕ) → done_text b ≡ Ok text → done_body b ≡ text
done_text_is b text h =
    elim (guard (eqb (length b) 0) _ _ _ h) [
      | inl k ↦ rw k.0 (let f = k.1 in cc)
      | inr k ↦ rw k.0 (error_is b text k.1)
    ]

pub type_at : (c : List ℕ) → 16 ≤ length c → frame_type c ≡ u16_at 0 (take 12 (drop 4 c))
type_at c h =
    u16_at-drop_4 c ∙ ap (u16_at 0) (sym (take-append-drop 12 (drop 4 c)))
    ∙ u16_at-append (take 12 (drop 4 c)) (drop 12 (drop 4 c)) (omega (arith, header_size c h))

one_header : (a b body : List ℕ) → take 12 (drop 4 a) ≡ take 12 (drop 4 b) → frame_text a body ≡ frame_text b body
unfolding frame_text
one_header a b body h = ap (λ z. le4 (16 + length body) ++ (z ++ (body ++ zeros (nla_align (16 + length body) - (16 + length body))))) h

module _ (r : Rule) where
  -- an accepted frame: its type, and the text of its body
  record AcceptedFirst (limit : ℕ) (c : List ℕ) (frame : ℕ × List ℕ) : Type 0 where
    pub type : frame_type c ≡ u16_at 0 (take 12 (drop 4 c))
    pub body : List ℕ
    pub body_is : body_text r (u16_at 0 (take 12 (drop 4 c))) (frame_body c) ≡ Ok body
    pub text_is : frame.1 ≡ frame_text c body

  accepted_first : (limit : ℕ) (c : List ℕ) (frame : ℕ × List ℕ) → first_frame r limit c ≡ Ok frame → AcceptedFirst limit c frame
  accepted_first limit c frame h =
      let t = texted r limit c frame h in
      let k = type_at c (accepted r limit c frame h).header in
      record { type = k; body = t.body; body_is = sym (ap (λ n. body_text r n (frame_body c)) k) ∙ t.body_is; text_is = t.text_is }

  not_nil : (limit : ℕ) (c : List ℕ) (frame : ℕ × List ℕ) → c ≡ [] → first_frame r limit c ≡ Ok frame → ⊥
  not_nil limit c frame e h = let a = accepted r limit c frame h in let l = ap length e in omega (arith, a.header, l)

module _ (r : Rule) (lawful : Lawful r) where
  -- ---- the texts of two bodies determine whether the bodies mean the same

  ruled_determined : (a b x y : List ℕ) → ruled_text r a ≡ Ok x → ruled_text r b ≡ Ok y → r.same a b ≡ true → x ≡ y
  ruled_determined a b x y h g s =
      let k = ruled r a x h in
      let m = ruled r b y g in
      sym k.is ∙ lawful.same_implies_equal_text a b k.accepted m.accepted s ∙ m.is

  ruled_determines : (a b x y : List ℕ) → ruled_text r a ≡ Ok x → ruled_text r b ≡ Ok y → x ≡ y → r.same a b ≡ true
  ruled_determines a b x y h g e =
      let k = ruled r a x h in
      let m = ruled r b y g in
      lawful.equal_text_implies_same a b k.accepted m.accepted (k.is ∙ e ∙ sym m.is)

  body_determined : (t : ℕ) (a b x y : List ℕ) → body_text r t a ≡ Ok x → body_text r t b ≡ Ok y → same_body r t a b ≡ true → x ≡ y
  body_determined = by_type r (λ text same attributes. (a b x y : List ℕ) → text a ≡ Ok x → text b ≡ Ok y → same a b ≡ true → x ≡ y)
      (λ a b x y h g s. cc)
      (λ a b x y h g s. sym (error_is a x h) ∙ bytes_from a b s ∙ error_is b y g)
      (λ a b x y h g s. sym (done_text_is a x h) ∙ bytes_from (done_body a) (done_body b) s ∙ done_text_is b y g)
      ruled_determined
      (λ a b x y h g s. cc (bytes_from a b s))

  pub body_determines : (t : ℕ) (a b x y : List ℕ) → body_text r t a ≡ Ok x → body_text r t b ≡ Ok y → x ≡ y → same_body r t a b ≡ true
  body_determines = by_type r (λ text same attributes. (a b x y : List ℕ) → text a ≡ Ok x → text b ≡ Ok y → x ≡ y → same a b ≡ true)
      (λ a b x y h g e. refl)
      (λ a b x y h g e. equal_bytes a b (error_is a x h ∙ e ∙ sym (error_is b y g)))
      (λ a b x y h g e. equal_bytes (done_body a) (done_body b) (done_text_is a x h ∙ e ∙ sym (done_text_is b y g)))
      ruled_determines
      (λ a b x y h g e. equal_bytes a b cc)

  -- ---- first frames

  -- two frames that mean the same have bodies with equal texts
  one_body : (limit : ℕ) (a b : List ℕ) (x y : ℕ × List ℕ) (p : AcceptedFirst r limit a x) (q : AcceptedFirst r limit b y) → SameFrame r a b → p.body ≡ q.body
  one_body limit a b x y p q s =
      body_determined (frame_type a) (frame_body a) (frame_body b) p.body q.body (ap (λ n. body_text r n (frame_body a)) p.type ∙ p.body_is)
      (ap (λ n. body_text r n (frame_body b)) (p.type ∙ ap (u16_at 0) s.header) ∙ q.body_is) s.body

  same_from : (limit : ℕ) (a b : List ℕ) (x y : ℕ × List ℕ) (p : AcceptedFirst r limit a x) (q : AcceptedFirst r limit b y) → take 12 (drop 4 a) ≡ take 12 (drop 4 b) → p.body ≡ q.body → SameFrame r a b
  same_from limit a b x y p q h e = record {
    header = h;
    body = body_determines (frame_type a) (frame_body a) (frame_body b) p.body q.body (ap (λ n. body_text r n (frame_body a)) p.type ∙ p.body_is)
        (ap (λ n. body_text r n (frame_body b)) (p.type ∙ ap (u16_at 0) h) ∙ q.body_is) e;
  }

  frame_determined : (limit : ℕ) (a b : List ℕ) (x y : ℕ × List ℕ) → first_frame r limit a ≡ Ok x → first_frame r limit b ≡ Ok y → SameFrame r a b → x.1 ≡ y.1
  frame_determined limit a b x y h g s =
      let p = accepted_first r limit a x h in
      let q = accepted_first r limit b y g in
      p.text_is ∙ ap (frame_text a) (one_body limit a b x y p q s) ∙ one_header a b q.body s.header ∙ sym q.text_is

  frame_symmetric : (limit : ℕ) (a b : List ℕ) (x y : ℕ × List ℕ) → first_frame r limit a ≡ Ok x → first_frame r limit b ≡ Ok y → SameFrame r a b → SameFrame r b a
  frame_symmetric limit a b x y h g s =
      let p = accepted_first r limit a x h in
      let q = accepted_first r limit b y g in
      same_from limit b a y x q p (sym s.header) (sym (one_body limit a b x y p q s))

  frame_transitive : (limit : ℕ) (a b c : List ℕ) (x y z : ℕ × List ℕ) → first_frame r limit a ≡ Ok x → first_frame r limit b ≡ Ok y → first_frame r limit c ≡ Ok z → SameFrame r a b → SameFrame r b c → SameFrame r a c
  frame_transitive limit a b c x y z h g k s on =
      let p = accepted_first r limit a x h in
      let q = accepted_first r limit b y g in
      let u = accepted_first r limit c z k in
      same_from limit a c x z p u (s.header ∙ on.header) (one_body limit a b x y p q s ∙ one_body limit b c y z q u on)

  -- ---- captures

  determined : (limit n : ℕ) (a b : List ℕ) → InStep r limit n a b → texts r limit a ≡ texts r limit b
  determined limit zero a b s = ap (texts r limit) (s.0 ∙ sym s.1)
  determined limit (suc n) a b s =
      let x = s.0 in
      let y = s.1 in
      texts_step r limit a x s.2
      ∙ ap (λ t. t ++ texts r limit (drop (nla_align x.0) a)) (frame_determined limit a b x y s.2 s.3 s.4)
      ∙ ap (λ t. y.1 ++ t) (determined limit n (drop (nla_align x.0) a) (drop (nla_align y.0) b) s.5)
      ∙ sym (texts_step r limit b y s.3)

  symmetric : (limit n : ℕ) (a b : List ℕ) → InStep r limit n a b → InStep r limit n b a
  symmetric limit zero a b s = (s.1, s.0)
  symmetric limit (suc n) a b s =
      let x = s.0 in
      let y = s.1 in
      (y, x, s.3, s.2, frame_symmetric limit a b x y s.2 s.3 s.4, symmetric limit n (drop (nla_align x.0) a) (drop (nla_align y.0) b) s.5)

  transitive : (limit n m : ℕ) (a b c : List ℕ) → InStep r limit n a b → InStep r limit m b c → InStep r limit n a c
  transitive limit zero zero a b c s on = (s.0, on.1)
  transitive limit zero (suc m) a b c s on = absurd (not_nil r limit b on.0 s.1 on.2)
  transitive limit (suc n) zero a b c s on = absurd (not_nil r limit b s.1 on.0 s.3)
  transitive limit (suc n) (suc m) a b c s on =
      let x = s.0 in
      let y = s.1 in
      let z = on.1 in
      let e : on.0 ≡ y = (let f = sym on.2 ∙ s.3 in cc) in
      let rest : InStep r limit m (drop (nla_align y.0) b) (drop (nla_align z.0) c) = subst (λ (w : ℕ × List ℕ). InStep r limit m (drop (nla_align w.0) b) (drop (nla_align z.0) c)) e on.5 in
      (x, z, s.2, on.3, frame_transitive limit a b c x y z s.2 s.3 on.3 s.4 on.4, transitive limit n m (drop (nla_align x.0) a) (drop (nla_align y.0) b) (drop (nla_align z.0) c) s.5 rest)

  determines : (limit : ℕ) (a b : List ℕ) → limit < 2 ^ 32 → IsLegal r limit a → IsLegal r limit b → texts r limit a ≡ texts r limit b → InSteps r limit a b
  determines limit a b l p q e =
      let i = texts_in_step r lawful limit a l p in
      let j = texts_in_step r lawful limit b l q in
      let there : InStep r limit i.0 a (texts r limit b) = subst (λ t. InStep r limit i.0 a t) e i.1 in
      (i.0, transitive limit i.0 j.0 a (texts r limit b) b there (symmetric limit j.0 b (texts r limit b) j.1))

  pub texts_determine_meanings : TextsDetermineMeanings r
  texts_determine_meanings = record {
    same_implies_equal_text = λ limit a b s. let w = to_steps r limit a b s in determined limit w.0 a b w.1;
    equal_text_implies_same = λ limit a b l p q e. of_steps r limit a b (determines limit a b l p q e);
    reflexive = λ limit a l h. of_steps r limit a a (determines limit a a l h h refl);
    symmetric = λ limit a b s. let w = to_steps r limit a b s in of_steps r limit b a (w.0, symmetric limit w.0 a b w.1);
    transitive = λ limit a b c s on.
        let w = to_steps r limit a b s in
        let v = to_steps r limit b c on in
        of_steps r limit a c (w.0, transitive limit w.0 v.0 a b c w.1 v.1);
  }

  pub bodies_determine_meanings : BodyTextsDetermineMeanings r
  bodies_determine_meanings t a b x y p q = (body_determined t a b x y p q, body_determines t a b x y p q)
