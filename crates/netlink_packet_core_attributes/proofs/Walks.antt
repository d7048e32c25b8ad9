-- A walk, step by step.
use Rattle.std.proofs.Common.{◌≡◌, ℕ, zero, suc, ◌<◌, ◌≤◌, List, [], ◌∷◌, length, Option, Some, None, refl, ap, ◌∙◌, arith}
use Rattle.netlink_packet_core_grammar.specs.Attributes.{Attribute, first_attribute}
use Rattle.netlink_packet_core_grammar.specs.AttributeViews.{viewed_attribute, after_first}
use Rattle.netlink_packet_core_grammar.specs.Laws.{FirstIsViewed, FirstIsWithin}
use Rattle.netlink_packet_core_attributes.specs.Walks.{walk_on, walk_within, attribute_walk}
use Rattle.netlink_packet_core_attributes.specs.Laws.{WalksUnfold}

-- ---- nothing remains, or no attribute

pub walk-empty : attribute_walk [] ≡ []
unfolding attribute_walk walk_within
walk-empty = refl

walk-by : (b : ℕ) (bytes : List ℕ) → attribute_walk (b ∷ bytes) ≡ walk_on (walk_within (length bytes)) (first_attribute (b ∷ bytes))
unfolding attribute_walk walk_within
walk-by b bytes = refl

pub walk-stop : (bytes : List ℕ) → 0 < length bytes → first_attribute bytes ≡ None → attribute_walk bytes ≡ None ∷ []
walk-stop [] l h = absurd (omega arith)
walk-stop (b ∷ bytes) l h = walk-by b bytes ∙ ap (walk_on (walk_within (length bytes))) h

-- ---- an attribute remains; more steps than bytes change nothing

walk_on-same : (o : Option (Attribute × List ℕ)) (f g : List ℕ → List (Option Attribute)) → ((e : Attribute) (rest : List ℕ) → o ≡ Some (e, rest) → f rest ≡ g rest) → walk_on f o ≡ walk_on g o
walk_on-same None f g h = refl
walk_on-same (Some x) f g h = ap (λ r. Some x.0 ∷ r) (h x.0 x.1 refl)

module _ (law : FirstIsWithin) where
  pub shorter : (bytes : List ℕ) (e : Attribute) (rest : List ℕ) → first_attribute bytes ≡ Some (e, rest) → length rest < length bytes
  shorter bytes e rest h = omega (arith, law.within bytes e rest h, law.rest_length bytes e rest h)

  walk-enough : (m n : ℕ) (bytes : List ℕ) → length bytes ≤ m → length bytes ≤ n → walk_within m bytes ≡ walk_within n bytes
  unfolding walk_within
  walk-enough zero (suc n) (b ∷ bytes) k l = absurd (omega arith)
  walk-enough (suc m) zero (b ∷ bytes) k l = absurd (omega arith)
  walk-enough (suc m) (suc n) (b ∷ bytes) k l =
      walk_on-same (first_attribute (b ∷ bytes)) (walk_within m) (walk_within n) (λ e rest h.
      let s = shorter (b ∷ bytes) e rest h in
      walk-enough m n rest (omega arith) (omega arith))
  walk-enough x y bytes k l = refl

  pub walk-step : (bytes : List ℕ) (e : Attribute) (rest : List ℕ) → first_attribute bytes ≡ Some (e, rest) → attribute_walk bytes ≡ Some e ∷ attribute_walk rest
  unfolding attribute_walk
  walk-step [] e rest h = absurd (let w = law.within [] e rest h in omega arith)
  walk-step (b ∷ bytes) e rest h =
      let s = shorter (b ∷ bytes) e rest h in
      walk-by b bytes ∙ ap (walk_on (walk_within (length bytes))) h
      ∙ ap (λ r. Some e ∷ r) (walk-enough (length bytes) (length rest) rest (omega arith) (omega arith))

-- ---- the same, by offsets

at_end : (bytes : List ℕ) → length bytes ≡ 0 → attribute_walk bytes ≡ []
at_end [] e = walk-empty
at_end (b ∷ bytes) e = absurd (omega arith)

pub walks_unfold : FirstIsViewed → FirstIsWithin → WalksUnfold
walks_unfold first law = record {
  empty = at_end;
  attribute = λ bytes h. walk-step law bytes (viewed_attribute bytes) (after_first bytes) (first.whole bytes h);
  fault = λ bytes l h. walk-stop bytes l (first.none bytes h);
}
