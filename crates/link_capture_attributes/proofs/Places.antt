-- Where the attributes of a list are: their headers are apart, and each payload follows its header.
use Rattle.std.proofs.Common.{◌≡◌, ℕ, zero, suc, ◌+◌, ◌-◌, ◌*◌, ◌≤◌, Bool, true, false, cond, List, [], ◌∷◌, ◌++◌, drop, take, length}
use Rattle.std.proofs.Common.{Option, Some, None, refl, sym, ap, subst, ◌∙◌}
use Rattle.std.proofs.Common.{append_assoc, append-nil, arith, length-append, length-drop}
use Rattle.std.specs.Prelude.{nat_le}
use Rattle.std.proofs.lemmas.Bool.{cond_both, le-leb, leb-true, lt-leb}
use Rattle.std.proofs.lemmas.List.{length-take, length-take-le, take-append-drop}
use Rattle.netlink_packet_core_grammar.specs.Attributes.{Attribute, attribute_length, first_attribute, nla_align}
use Rattle.netlink_packet_core_grammar.specs.Frames.{BeginsWithFrame, frame_body, frame_length, frame_type}
use Rattle.netlink_packet_core_grammar.specs.Laws.{FirstIsWithin}
use Rattle.netlink_packet_core_grammar.proofs.Attributes.{Headed, headed}
use Rattle.link_capture_grammar.specs.Bodies.{is_link_type}
use Rattle.link_capture_walks.proofs.Listings.{rest_shorter}
use Rattle.link_capture_lists.specs.ListTables.{list_rest}
use Rattle.link_tables.specs.declared.rows.Form.{Form}
use Rattle.link_tables.specs.declared.rows.Form.TheVariants.{FirstOnly}
use Rattle.link_capture_walks.specs.Walks.{collected_inside}
use Rattle.link_capture_attributes.specs.Attributes.{Found, Level, after, first_from, frame_attributes, inside, link_level, list_attributes}
use Rattle.link_capture_attributes.specs.AttributeLaws.{AreApart, AttributesAreApart, AttributesAreWhereTheySay, IsAt}
use Rattle.link_capture_attributes.specs.AttributeLaws.{ListsUnfoldByAttributes, NextIsFromPayload}

-- ---- the next attribute

-- the attributes from some offset on
found_from : (position low high : ℕ) (gs : List Found) → position ≤ low → AreApart low high gs → first_from position gs ≡ first_from 0 gs
found_from position low high [] h x = refl
found_from position low high (g ∷ gs) h x =
    ap (λ b. cond b (Some g) (first_from position gs)) (le-leb position g.offset (omega (arith, h, x.0)))
    ∙ sym (ap (λ b. cond b (Some g) (first_from 0 gs)) (le-leb 0 g.offset (omega arith)))

after_others : (low high : ℕ) (fs gs : List Found) (f : Found) → AreApart low high (fs ++ f ∷ gs) → low ≤ f.offset
after_others low high [] gs f x = x.0
after_others low high (h ∷ fs) gs f x = let r = after_others (h.offset + 4) high fs gs f x.2 in omega (arith, r, x.0)

pub next_from : NextIsFromPayload
next_from low high [] gs f x =
    ap (λ b. cond b (Some f) (first_from (f.offset + 4) gs)) (lt-leb (f.offset + 4) f.offset (omega arith))
    ∙ found_from (f.offset + 4) (f.offset + 4) high gs (omega arith) x.2
next_from low high (h ∷ fs) gs f x =
    ap (λ b. cond b (Some h) (first_from (f.offset + 4) (fs ++ f ∷ gs)))
    (lt-leb (f.offset + 4) h.offset (omega (arith, after_others (h.offset + 4) high fs gs f x.2)))
    ∙ next_from (h.offset + 4) high fs gs f x.2

-- ---- parts of bytes

-- a part of bytes is where they are
part_at : (start : ℕ) (c : List ℕ) (offset : ℕ) (x a b d : List ℕ) → IsAt start c offset x → x ≡ a ++ (b ++ d) →
    IsAt start c (offset + length a) b
part_at start c offset x a b d (before, rest, is, at) e = (
  before ++ a,
  d ++ rest,
  is ∙ ap (λ y. before ++ (y ++ rest)) e
      ∙ ap (λ y. before ++ y) (append_assoc a (b ++ d) rest ∙ ap (λ y. a ++ y) (append_assoc b d rest))
      ∙ sym (append_assoc before a (b ++ (d ++ rest))),
  omega (arith, length-append before a, at),
)

dropped_at : (start : ℕ) (c : List ℕ) (offset n : ℕ) (p : List ℕ) → n ≤ length p → IsAt start c offset p →
    IsAt start c (offset + n) (drop n p)
dropped_at start c offset n p h i =
    let s = length-take n p in
    subst (λ m. IsAt start c (offset + m) (drop n p)) (omega (arith, s, h))
    (part_at start c offset p (take n p) (drop n p) [] i (sym (take-append-drop n p) ∙ ap (λ y. take n p ++ y) (sym (append-nil (drop n p)))))

-- ---- attributes of lists that are in c, which begins at `start`

-- The headers of attributes are apart, from `low` to `high`, and each payload is where its header ends.
abbrev ArePlaced : ℕ → List ℕ → ℕ → ℕ → List Found → Type 0
ArePlaced start c low high [] = Unit {0}
ArePlaced start c low high (f ∷ fs) =
    (low ≤ f.offset) × (f.offset + 4 ≤ high) × IsAt start c (f.offset + 4) f.attribute.payload × ArePlaced start c (f.offset + 4) high fs

are_apart : (start : ℕ) (c : List ℕ) (low high : ℕ) (fs : List Found) → ArePlaced start c low high fs → AreApart low high fs
are_apart start c low high [] x = tt
are_apart start c low high (f ∷ fs) x = (x.0, x.1, are_apart start c (f.offset + 4) high fs x.3)

abbrev IsThere : ℕ → List ℕ → ℕ → Found → Type 0
IsThere start c position f = (position ≤ f.offset) × IsAt start c (f.offset + 4) f.attribute.payload

found_there : (start : ℕ) (c : List ℕ) (low high position : ℕ) (fs : List Found) (f : Found) → ArePlaced start c low high fs →
    first_from position fs ≡ Some f → IsThere start c position f
found_there start c low high position [] f x h = absurd cc
found_there start c low high position (g ∷ fs) f x h =
    cond_both (nat_le position g.offset) (Some g) (first_from position fs) (λ o. o ≡ Some f → IsThere start c position f)
    (λ e i. let same : g ≡ f = cc in subst (IsThere start c position) same (leb-true position g.offset e, x.2))
    (λ e. found_there start c (g.offset + 4) high position fs f x.3) h

module _ (start : ℕ) (c : List ℕ) where
  wider : (a b low high : ℕ) (fs : List Found) → low ≤ a → b ≤ high → ArePlaced start c a b fs → ArePlaced start c low high fs
  wider a b low high [] g h x = tt
  wider a b low high (f ∷ fs) g h x =
      (omega (arith, g, x.0), omega (arith, h, x.1), x.2, wider (f.offset + 4) b (f.offset + 4) high fs (omega arith) h x.3)

  joined : (low mid high : ℕ) (fs gs : List Found) → low ≤ mid → mid ≤ high → ArePlaced start c low mid fs → ArePlaced start c mid high gs →
      ArePlaced start c low high (fs ++ gs)
  joined low mid high [] gs g h x y = wider mid high low high gs g (omega arith) y
  joined low mid high (f ∷ fs) gs g h x y = (x.0, omega (arith, h, x.1), x.2, joined (f.offset + 4) mid high fs gs x.1 h x.3 y)

module _ (s : ListsUnfoldByAttributes) where
  pub no_bytes : (l : Level) (offset : ℕ) → list_attributes l offset [] ≡ []
  unfolding first_attribute
  no_bytes l offset = s.none l offset [] refl

  module _ (start : ℕ) (c : List ℕ) where
    abbrev Placed : ℕ → Type 0
    Placed k = (l : Level) (offset : ℕ) (bytes : List ℕ) → length bytes ≤ k → IsAt start c offset bytes →
        ArePlaced start c offset (offset + length bytes) (list_attributes l offset bytes)

    none_placed : (low high : ℕ) (l : Level) (offset : ℕ) → ArePlaced start c low high (list_attributes l offset [])
    none_placed low high l offset = subst (ArePlaced start c low high) (sym (no_bytes l offset)) tt

    module _ (k : ℕ) (i : Placed k) where
      -- the end of bytes
      end_placed : (low high : ℕ) (l : Level) (offset n : ℕ) (bytes : List ℕ) → length (drop n bytes) ≤ k → IsAt start c offset bytes →
          low ≤ offset + n → offset + length bytes ≤ high → ArePlaced start c low high (list_attributes l (offset + n) (drop n bytes))
      end_placed low high l offset n bytes h a g e = by (drop n bytes) refl
        where
          by : (d : List ℕ) → drop n bytes ≡ d → ArePlaced start c low high (list_attributes l (offset + n) d)
          by [] is = none_placed low high l (offset + n)
          by (b ∷ d) is =
              let size = ap length is in
              let t = length-drop n bytes in
              let there = subst (IsAt start c (offset + n)) is (dropped_at start c offset n bytes (omega (arith, size, t)) a) in
              wider start c (offset + n) (offset + n + length (b ∷ d)) low high (list_attributes l (offset + n) (b ∷ d)) g
              (omega (arith, size, t, e)) (i l (offset + n) (b ∷ d) (omega (arith, h, size)) there)

      inside_placed : (offset : ℕ) (o : Option (Level × ℕ)) (p : List ℕ) → length p ≤ k → IsAt start c offset p →
          ArePlaced start c offset (offset + length p) (collected_inside list_attributes offset o p)
      inside_placed offset None p h a = tt
      inside_placed offset (Some x) p h a =
          end_placed offset (offset + length p) x.0 offset x.1 p (omega (arith, length-drop x.1 p, h)) a (omega arith) (omega arith)

      rest_placed : (form : Form) (low high : ℕ) (l : Level) (offset n : ℕ) (bytes rest : List ℕ) → rest ≡ drop n bytes → length rest ≤ k →
          IsAt start c offset bytes → low ≤ offset + n → offset + length bytes ≤ high →
          ArePlaced start c low high (list_attributes l (offset + n) (list_rest form rest))
      rest_placed FirstOnly low high l offset n bytes rest is h a g e = none_placed low high l (offset + n)
      rest_placed form low high l offset n bytes rest is h a g e =
          subst (λ d. ArePlaced start c low high (list_attributes l (offset + n) d)) (sym is)
          (end_placed low high l offset n bytes (omega (arith, h, ap length is)) a g e)

      next_placed : FirstIsWithin → (l : Level) (offset : ℕ) (bytes : List ℕ) → length bytes ≤ suc k → IsAt start c offset bytes →
          (o : Option (Attribute × List ℕ)) → first_attribute bytes ≡ o →
          ArePlaced start c offset (offset + length bytes) (list_attributes l offset bytes)
      next_placed w l offset bytes h a None is =
          subst (ArePlaced start c offset (offset + length bytes)) (sym (s.none l offset bytes is)) tt
      next_placed w l offset bytes h a (Some x) is =
          let t = w.within bytes x.0 x.1 is in
          let r = rest_shorter w bytes x.0 x.1 is in
          let mid = offset + 4 + length x.0.payload in
          let high = offset + length bytes in
          let payload = payload_at x.0 x.1 (headed bytes x.0 x.1 is) in
          subst (ArePlaced start c offset high) (sym (s.next l offset bytes x.0 x.1 is)) (
            omega arith,
            omega (arith, t),
            payload,
            joined start c (offset + 4) mid high (collected_inside list_attributes (offset + 4) (inside l x.0) x.0.payload)
                (list_attributes (after l x.0) (offset + nla_align (attribute_length x.0)) (list_rest l.list.table.form x.1))
                (omega arith) (omega (arith, t))
                (inside_placed (offset + 4) (inside l x.0) x.0.payload (omega (arith, t, h)) payload)
                (rest_placed l.list.table.form mid high (after l x.0) offset (nla_align (attribute_length x.0)) bytes x.1
                (rest_is x.0 x.1 (headed bytes x.0 x.1 is)) (omega (arith, r, h)) a (omega arith) (omega arith)),
          )
        where
          payload_at : (e : Attribute) (rest : List ℕ) → Headed bytes e rest → IsAt start c (offset + 4) e.payload
          payload_at e rest m =
              let size = m.a + 256 * m.b in
              subst (IsAt start c (offset + 4)) m.is_cut.payload_is
              (part_at start c offset bytes (m.a ∷ m.b ∷ m.c ∷ m.d ∷ []) (take (size - 4) m.tail) (drop (size - 4) m.tail) a
              (m.is ∙ ap (λ y. m.a ∷ m.b ∷ m.c ∷ m.d ∷ y) (sym (take-append-drop (size - 4) m.tail))))

          rest_is : (e : Attribute) (rest : List ℕ) → Headed bytes e rest → rest ≡ drop (nla_align (attribute_length e)) bytes
          rest_is e rest m =
              let f = m.is_cut in
              let size = m.a + 256 * m.b in
              let n = nla_align size - 4 in
              let s : length e.payload ≡ size - 4 =
              ap length (sym f.payload_is) ∙ length-take-le (size - 4) m.tail (omega (arith, f.large)) in
              let same : suc (suc (suc (suc n))) ≡ nla_align (attribute_length e) = omega (arith, f.small, s) in
              sym f.rest_is
              ∙ ap (λ z. drop z (m.a ∷ m.b ∷ m.c ∷ m.d ∷ m.tail)) same
              ∙ ap (drop (nla_align (attribute_length e))) (sym m.is)

    placed : FirstIsWithin → (k : ℕ) → Placed k
    placed w zero l offset [] h a = none_placed offset (offset + 0) l offset
    placed w zero l offset (b ∷ bytes) h a = absurd (omega (arith, h))
    placed w (suc k) l offset bytes h a = next_placed k (placed w k) w l offset bytes h a (first_attribute bytes) refl

  module _ (w : FirstIsWithin) where
    all_placed : (offset : ℕ) (c : List ℕ) → BeginsWithFrame c →
        ArePlaced offset c (offset + 32) (offset + frame_length c) (frame_attributes offset c)
    unfolding frame_attributes
    all_placed offset c i = by (is_link_type (frame_type c))
      where
        body_at : IsAt offset c (offset + 16) (frame_body c)
        body_at =
            let n = frame_length c - 16 in
            subst (λ m. IsAt offset c (offset + m) (frame_body c)) (omega (arith, length-take 16 c, i.has_header))
            (part_at offset c offset c (take 16 c) (frame_body c) (drop n (drop 16 c)) ([], [], sym (append-nil c), omega arith)
            (sym (take-append-drop 16 c) ∙ ap (λ y. take 16 c ++ y) (sym (take-append-drop n (drop 16 c)))))

        by : (link : Bool) → ArePlaced offset c (offset + 32) (offset + frame_length c)
            (cond link (list_attributes (link_level (frame_body c)) (offset + 16 + 16) (drop 16 (frame_body c))) [])
        by false = tt
        by true =
            let k = length (drop 16 (frame_body c)) in
            let size = length-take (frame_length c - 16) (drop 16 c) in
            end_placed offset c k (placed offset c w k) (offset + 32) (offset + frame_length c) (link_level (frame_body c)) (offset + 16) 16
            (frame_body c) (omega arith) body_at (omega arith) (omega (arith, size, i.covers_header))

    pub apart : AttributesAreApart
    apart offset c i = are_apart offset c (offset + 32) (offset + frame_length c) (frame_attributes offset c) (all_placed offset c i)

    pub there : AttributesAreWhereTheySay
    there offset position c f i h =
        found_there offset c (offset + 32) (offset + frame_length c) position (frame_attributes offset c) f (all_placed offset c i) h
