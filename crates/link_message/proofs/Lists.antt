-- Lists of values with equal texts are equal.
use Rattle.std.proofs.Common.{◌≡◌, List, [], ◌∷◌, map, Bool, true, Some, refl, sym, ap, ◌∙◌, subst, suc, arith, All, append-nil}
use lib.Pointwise.{pointwise}
use Rattle.std.proofs.lemmas.Bool.{and_from}
use Rattle.netlink_packet_core.specs.Attributes.{Attribute, attribute_text, attributes_of, list_text}
use Rattle.netlink_packet_core.specs.Lists.{text_by}
use Rattle.netlink_packet_core_grammar.proofs.Attributes.{attributes_of_text}
use Rattle.link_message.specs.Injective.{IsInjective}

some_equal : {A : Type 0} (x y : A) → Some x ≡ Some y → x ≡ y
some_equal x y e = cc

pub one_list : (es fs : List Attribute) → list_text es ≡ list_text fs → es ≡ fs
one_list es fs e = some_equal es fs (sym (attributes_of_text es) ∙ ap attributes_of e ∙ attributes_of_text fs)

pub first_equal : {A : Type 0} (x y : A) (xs ys : List A) → x ∷ xs ≡ y ∷ ys → x ≡ y
first_equal x y xs ys e = cc

pub rest_equal : {A : Type 0} (x y : A) (xs ys : List A) → x ∷ xs ≡ y ∷ ys → xs ≡ ys
rest_equal x y xs ys e = cc

singleton : (a : Attribute) → list_text (a ∷ []) ≡ attribute_text a
unfolding list_text
singleton a = append-nil (attribute_text a)

-- One attribute is determined by its text.
pub one_attribute : (a b : Attribute) → attribute_text a ≡ attribute_text b → a ≡ b
one_attribute a b e = first_equal a b [] [] (one_list (a ∷ []) (b ∷ []) (singleton a ∙ e ∙ sym (singleton b)))

pub entries_injective : {V : Type 0} (equal : V → V → Bool) (entry : V → Attribute) (named : V → Type 0) → IsInjective equal entry named → (vs ws : List V) → All named vs → All named ws → map entry vs ≡ map entry ws → pointwise equal vs ws ≡ true
entries_injective equal entry named injective [] [] p q e = refl
entries_injective equal entry named injective [] (w ∷ ws) p q e = absurd cc
entries_injective equal entry named injective (v ∷ vs) [] p q e = absurd cc
entries_injective equal entry named injective (v ∷ vs) (w ∷ ws) p q e =
    and_from _ _ (injective v w (p 0 v (omega arith)) (q 0 w (omega arith)) (first_equal _ _ _ _ e)) (entries_injective equal entry named injective vs ws (λ k d h. p (suc k) d (omega (arith, h))) (λ k d h. q (suc k) d (omega (arith, h))) (rest_equal _ _ _ _ e))

pub lists_injective : {V : Type 0} (equal : V → V → Bool) (entry : V → Attribute) (named : V → Type 0) → IsInjective equal entry named → (vs ws : List V) → All named vs → All named ws → text_by entry vs ≡ text_by entry ws → pointwise equal vs ws ≡ true
lists_injective equal entry named injective vs ws p q e = entries_injective equal entry named injective vs ws p q (one_list _ _ e)

own : {A : Type 0} (E : A → A → Bool) → ((x : A) → E x x ≡ true) → (xs : List A) → pointwise E xs xs ≡ true
own E r [] = refl
own E r (x ∷ xs) = and_from _ _ (r x) (own E r xs)

pub pointwise_same : {A : Type 0} (E : A → A → Bool) → ((x : A) → E x x ≡ true) → (xs ys : List A) → xs ≡ ys → pointwise E xs ys ≡ true
pointwise_same E r xs ys e = subst (λ zs. pointwise E xs zs ≡ true) e (own E r xs)
