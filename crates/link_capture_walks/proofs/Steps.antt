-- A walk in as many steps as there are bytes goes on from attribute to attribute: more steps yield the same.
use Rattle.std.proofs.Common.{◌≡◌, ℕ, zero, suc, ◌+◌, ◌-◌, ◌≤◌, List, [], ◌∷◌, ◌++◌, length, drop, Option, Some, None, refl, sym, ap, ◌∙◌}
use Rattle.std.proofs.Common.{arith, length-drop}
use Rattle.netlink_packet_core_grammar.specs.Attributes.{Attribute, attribute_length, first_attribute, nla_align}
use Rattle.netlink_packet_core_grammar.specs.Laws.{FirstIsWithin}
use Rattle.link_capture_walks.specs.Walks.{OfLists, UnfoldsByAttributes, Walk}
use Rattle.link_capture_walks.specs.Walks.{collected, collected_inside, collected_next, collected_within}

-- two functions agree on lists of at most k bytes
abbrev pub Same : {L A : Type 0} → OfLists L A → OfLists L A → ℕ → Type 0
Same {L = L} f g k = (l : L) (offset : ℕ) (bytes : List ℕ) → length bytes ≤ k → f l offset bytes ≡ g l offset bytes

-- a step uses shorter lists alone
abbrev pub GoesInward : {L A : Type 0} → (OfLists L A → OfLists L A) → Type 0
GoesInward {L = L} {A = A} step = (f g : OfLists L A) (k : ℕ) → Same f g k → Same (step f) (step g) (suc k)

-- The results of n steps, for each n; no step is needed where no bytes are left.
pub record Steps {L A : Type 0} (step : OfLists L A → OfLists L A) (within : ℕ → OfLists L A) : Type 0 where
  pub next : (n : ℕ) (l : L) (offset : ℕ) (bytes : List ℕ) → within (suc n) l offset bytes ≡ step (within n) l offset bytes
  pub none : (n : ℕ) (l : L) (offset : ℕ) → within (suc n) l offset [] ≡ within zero l offset []

module _ {L A : Type 0} (step : OfLists L A → OfLists L A) (within : ℕ → OfLists L A) (s : Steps step within) (i : GoesInward step) where
  no_step : (n : ℕ) (l : L) (offset : ℕ) → within n l offset [] ≡ within zero l offset []
  no_step zero l offset = refl
  no_step (suc n) l offset = s.none n l offset

  no_bytes : (m n : ℕ) (l : L) (offset : ℕ) (bytes : List ℕ) → length bytes ≤ 0 → within m l offset bytes ≡ within n l offset bytes
  no_bytes m n l offset [] h = no_step m l offset ∙ sym (no_step n l offset)
  no_bytes m n l offset (b ∷ bytes) h = absurd (omega (arith, h))

  -- two numbers of steps that are both enough for the bytes
  enough : (m n : ℕ) (l : L) (offset : ℕ) (bytes : List ℕ) → length bytes ≤ m → length bytes ≤ n →
      within m l offset bytes ≡ within n l offset bytes
  enough zero n l offset bytes p q = no_bytes zero n l offset bytes p
  enough (suc m) zero l offset bytes p q = no_bytes (suc m) zero l offset bytes q
  enough (suc m) (suc n) l offset bytes p q =
      let k = length bytes - 1 in
      s.next m l offset bytes
      ∙ i (within m) (within n) k (λ x r d h. enough m n x r d (omega (arith, h, p)) (omega (arith, h, q))) l offset bytes (omega arith)
      ∙ sym (s.next n l offset bytes)

  abbrev all : OfLists L A
  all l offset bytes = within (length bytes) l offset bytes

  pub by_step : (l : L) (offset : ℕ) (bytes : List ℕ) → all l offset bytes ≡ step all l offset bytes
  by_step l offset bytes =
      let k = length bytes - 1 in
      enough (length bytes) (suc k) l offset bytes (omega arith) (omega arith)
      ∙ s.next k l offset bytes
      ∙ i (within k) all k (λ x r d h. enough k (length d) x r d h (omega arith)) l offset bytes (omega arith)

-- ---- what a walk collects

module _ {L A : Type 0} (w : Walk L A) where
  abbrev step : OfLists L (List A) → OfLists L (List A)
  step f l offset bytes = collected_next w f l offset (first_attribute bytes)

  module _ (f g : OfLists L (List A)) (k : ℕ) (same : Same f g k) where
    same_inside : (offset : ℕ) (o : Option (L × ℕ)) (p : List ℕ) → length p ≤ k →
        collected_inside f offset o p ≡ collected_inside g offset o p
    same_inside offset None p h = refl
    same_inside offset (Some x) p h = same x.0 (offset + x.1) (drop x.1 p) (omega (arith, length-drop x.1 p, h))

    same_next : (l : L) (offset : ℕ) (e : Attribute) (rest : List ℕ) → length e.payload ≤ k → length (w.rest l rest) ≤ k →
        collected_next w f l offset (Some (e, rest)) ≡ collected_next w g l offset (Some (e, rest))
    same_next l offset e rest p r =
        let next = offset + nla_align (attribute_length e) in
        ap (λ z. w.direct l offset e ++ (z ++ f (w.after l e) next (w.rest l rest))) (same_inside (offset + 4) (w.inside l e) e.payload p)
        ∙ ap (λ z. w.direct l offset e ++ (collected_inside g (offset + 4) (w.inside l e) e.payload ++ z))
        (same (w.after l e) next (w.rest l rest) r)

  module _ (within : FirstIsWithin) (shorter : (l : L) (bytes : List ℕ) → length (w.rest l bytes) ≤ length bytes) where
    inward : GoesInward step
    inward f g k same l offset bytes h = by (first_attribute bytes) refl
      where
        by : (o : Option (Attribute × List ℕ)) → first_attribute bytes ≡ o → collected_next w f l offset o ≡ collected_next w g l offset o
        by None e = refl
        by (Some x) e =
            let a = within.within bytes x.0 x.1 e in
            let r = within.rest_length bytes x.0 x.1 e in
            same_next f g k same l offset x.0 x.1 (omega (arith, a, h)) (omega (arith, shorter l x.1, a, r, h))

    one_step : (l : L) (offset : ℕ) (bytes : List ℕ) → collected w l offset bytes ≡ step (collected w) l offset bytes
    unfolding collected collected_within first_attribute
    one_step = by_step step (collected_within w) (record { next = λ n l offset bytes. refl; none = λ n l offset. refl }) inward

    pub unfolds_by_attributes : UnfoldsByAttributes w (collected w)
    unfolds_by_attributes = record {
      next = λ l offset bytes e rest h. one_step l offset bytes ∙ ap (collected_next w (collected w) l offset) h;
      none = λ l offset bytes h. one_step l offset bytes ∙ ap (collected_next w (collected w) l offset) h;
    }
