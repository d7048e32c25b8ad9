-- The laws of walks and of written attributes.
use Rattle.std.proofs.Common.{◌≡◌, ℕ, zero, suc, ◌+◌, ◌*◌, ◌<◌, ◌≤◌, List, [], ◌∷◌, ◌++◌, length, map, Option, Some, None, refl, sym, ap, subst, ◌∙◌, arith, append_assoc}
use Rattle.netlink_packet_core_grammar.specs.Attributes.{Attribute, attribute_text, list_text, first_attribute, attributes_of, IsAttributeList}
use Rattle.netlink_packet_core_grammar.specs.AttributeViews.{viewed_attribute, BeginsWithAttribute, after_first}
use Rattle.netlink_packet_core_grammar.specs.Laws.{SplittingIsTheRelation, FirstIsViewed, FirstIsWithin, WrittenIsFirst}
use Rattle.netlink_packet_core_grammar.proofs.Attributes.{got, got_is}
use Rattle.netlink_packet_core_attributes.specs.Walks.{IsWalk, attribute_walk}
use Rattle.netlink_packet_core_attributes.specs.Laws.{WalkIsTheRelation, ListsAreWalked, OthersEndInAFault, TextsAreWalked, TextsAreReadBack, WalksAreShort}
use Rattle.netlink_packet_core_attributes.proofs.Walks.{shorter, walk-empty, walk-step, walk-stop}

-- ---- the function and the relation

module _ (within : FirstIsWithin) where
  walk_is_by : (bytes : List ℕ) → ((rest : List ℕ) → length rest < length bytes → IsWalk rest (attribute_walk rest)) → 0 < length bytes → (o : Option (Attribute × List ℕ)) → first_attribute bytes ≡ o → IsWalk bytes (attribute_walk bytes)
  walk_is_by bytes more l None h = subst (IsWalk bytes) (sym (walk-stop bytes l h)) (l, h, refl)
  walk_is_by bytes more l (Some x) h = subst (IsWalk bytes) (sym (walk-step within bytes x.0 x.1 h)) (x.1, h, more x.1 (shorter within bytes x.0 x.1 h))

  walk_is : (n : ℕ) (bytes : List ℕ) → length bytes ≤ n → IsWalk bytes (attribute_walk bytes)
  walk_is n [] l = subst (IsWalk []) (sym walk-empty) refl
  walk_is zero (b ∷ bytes) l = absurd (omega arith)
  walk_is (suc n) (b ∷ bytes) l = walk_is_by (b ∷ bytes) (λ rest s. walk_is n rest (omega arith)) (omega arith) (first_attribute (b ∷ bytes)) refl

  is_walk : (bytes : List ℕ) (items : List (Option Attribute)) → IsWalk bytes items → attribute_walk bytes ≡ items
  is_walk bytes [] h = ap attribute_walk h ∙ walk-empty
  is_walk bytes (Some e ∷ items) h = walk-step within bytes e h.0 h.1 ∙ ap (λ r. Some e ∷ r) (is_walk h.0 items h.2)
  is_walk bytes (None ∷ items) h = walk-stop bytes h.0 h.1 ∙ ap (λ (r : List (Option Attribute)). None ∷ r) (sym h.2)

  pub walk_is_the_relation : WalkIsTheRelation
  walk_is_the_relation bytes items = (λ e. subst (IsWalk bytes) e (walk_is (length bytes) bytes (omega arith)), is_walk bytes items)

-- ---- lists and other bytes

list_walk : (bytes : List ℕ) (es : List Attribute) → IsAttributeList bytes es → IsWalk bytes (map (λ e. Some e) es)
list_walk bytes [] h = h
list_walk bytes (e ∷ es) h = (h.0, h.1, list_walk h.0 es h.2)

walk_list : (bytes : List ℕ) (es : List Attribute) → IsWalk bytes (map (λ e. Some e) es) → IsAttributeList bytes es
walk_list bytes [] h = h
walk_list bytes (e ∷ es) h = (h.0, h.1, walk_list h.0 es h.2)

EndsInAFault : List ℕ → Type 0
EndsInAFault bytes = (es : List Attribute) × (attribute_walk bytes ≡ map (λ e. Some e) es ++ None ∷ [])

module _ (within : FirstIsWithin) where
  pub lists_are_walked : SplittingIsTheRelation → ListsAreWalked
  lists_are_walked cut bytes es = (
    λ h. is_walk within bytes (map (λ e. Some e) es) (list_walk bytes es ((cut bytes es).0 h)),
    λ h. (cut bytes es).1 (walk_list bytes es ((walk_is_the_relation within bytes (map (λ e. Some e) es)).0 h)),
  )

  module _ (cut : SplittingIsTheRelation) where
    none_after : (bytes : List ℕ) (e : Attribute) (rest : List ℕ) → first_attribute bytes ≡ Some (e, rest) → attributes_of bytes ≡ None → (o : Option (List Attribute)) → attributes_of rest ≡ o → o ≡ None
    none_after bytes e rest f n None a = refl
    none_after bytes e rest f n (Some es) a = let k : got (e ∷ es) ≡ None = sym ((cut bytes (e ∷ es)).1 (rest, f, (cut rest es).0 a)) ∙ n in absurd cc

    fault_by : (bytes : List ℕ) → ((rest : List ℕ) → length rest < length bytes → attributes_of rest ≡ None → EndsInAFault rest) → 0 < length bytes → attributes_of bytes ≡ None → (o : Option (Attribute × List ℕ)) → first_attribute bytes ≡ o → EndsInAFault bytes
    unfolding EndsInAFault
    fault_by bytes more l n None h = ([], walk-stop bytes l h)
    fault_by bytes more l n (Some x) h =
        let none : attributes_of x.1 ≡ None = none_after bytes x.0 x.1 h n (attributes_of x.1) refl in
        let r = more x.1 (shorter within bytes x.0 x.1 h) none in
        (x.0 ∷ r.0, walk-step within bytes x.0 x.1 h ∙ ap (λ items. Some x.0 ∷ items) r.1)

    fault_within : (n : ℕ) (bytes : List ℕ) → length bytes ≤ n → attributes_of bytes ≡ None → EndsInAFault bytes
    fault_within n [] l h = let e : got {A = List Attribute} [] ≡ None = sym ((cut [] []).1 refl) ∙ h in absurd cc
    fault_within zero (b ∷ bytes) l h = absurd (omega arith)
    fault_within (suc n) (b ∷ bytes) l h = fault_by (b ∷ bytes) (λ rest s. fault_within n rest (omega arith)) (omega arith) h (first_attribute (b ∷ bytes)) refl

    pub others_end_in_a_fault : OthersEndInAFault
    unfolding EndsInAFault
    others_end_in_a_fault bytes h = fault_within (length bytes) bytes (omega arith) h

-- ---- written attributes

module _ (within : FirstIsWithin) where
  pub texts_are_walked : WrittenIsFirst → TextsAreWalked
  unfolding list_text
  texts_are_walked prefix [] bytes = refl
  texts_are_walked prefix (e ∷ es) bytes =
      ap attribute_walk (append_assoc (attribute_text e) (list_text es) bytes)
      ∙ walk-step within (attribute_text e ++ (list_text es ++ bytes)) e (list_text es ++ bytes) (prefix e (list_text es ++ bytes))
      ∙ ap (λ items. Some e ∷ items) (texts_are_walked prefix es bytes)

is_none : FirstIsViewed → (bytes : List ℕ) (x : Attribute × List ℕ) → first_attribute bytes ≡ Some x → (BeginsWithAttribute bytes → ⊥) → ⊥
is_none law bytes x h n = let e : got x ≡ None = sym h ∙ law.none bytes n in cc

not_less : (m n : ℕ) → (m < n → ⊥) → n ≤ m
not_less m n h = omega (arith, h)

whole : FirstIsViewed → (bytes : List ℕ) (x : Attribute × List ℕ) → first_attribute bytes ≡ Some x → BeginsWithAttribute bytes
whole law bytes x h = record {
  has_header = not_less _ _ (λ s. is_none law bytes x h (λ i. let k = i.has_header in omega arith));
  covers_header = not_less _ _ (λ s. is_none law bytes x h (λ i. let k = i.covers_header in omega arith));
  within = not_less _ _ (λ s. is_none law bytes x h (λ i. let k = i.within in omega arith));
}

pub texts_are_read_back : FirstIsViewed → WrittenIsFirst → TextsAreReadBack
texts_are_read_back law prefix e bytes =
    let text = attribute_text e ++ bytes in
    let h = prefix e bytes in
    let is = whole law text (e, bytes) h in
    let same : (viewed_attribute text, after_first text) ≡ (e, bytes) = got_is (viewed_attribute text, after_first text) (e, bytes) (sym (law.whole text is) ∙ h) in
    (is, ap (λ (x : Attribute × List ℕ). x.0) same)

-- ---- the number of items

module _ (within : FirstIsWithin) where
  short : (bytes : List ℕ) (items : List (Option Attribute)) → IsWalk bytes items → 4 * length items ≤ length bytes + 3
  short bytes [] h = omega arith
  short bytes (None ∷ items) h = let last : length items ≡ 0 = ap length h.2 in omega (arith, h.0)
  short bytes (Some e ∷ items) h =
      let w = within.within bytes e h.0 h.1 in
      let r = within.rest_length bytes e h.0 h.1 in
      omega (arith, short h.0 items h.2, w, r)

  pub walks_are_short : WalksAreShort
  walks_are_short bytes = short bytes (attribute_walk bytes) (walk_is within (length bytes) bytes (omega arith))
