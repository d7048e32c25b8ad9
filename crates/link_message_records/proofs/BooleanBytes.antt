-- A number is zero if and only if the sum of its bytes is.
use Rattle.std.proofs.Common.{◌≡◌, ℕ, zero, suc, ◌+◌, ◌<◌, Bool, true, false, [], ◌∷◌, ◌++◌, length, refl, sym, ap, arith, length-append}
use Rattle.std.specs.Prelude.{◌==◌, not}
use Rattle.std.proofs.lemmas.Bool.{eqb-true}
use Rattle.netlink_packet_core_grammar.specs.Attributes.{zeros}
use Rattle.netlink_packet_core_grammar.specs.Numbers.{le4}
use Rattle.netlink_packet_core_grammar.proofs.Sizes.{length-le4}
use Rattle.netlink_packet_core_grammar.specs.Booleans.{boolean_of, boolean_byte}
use Rattle.attribute_tables_grammar.specs.Shapes.{number, number_boolean}

of_more : (n : ℕ) → 0 < n → boolean_of n ≡ 1
of_more zero h = absurd (omega arith)
of_more (suc n) h = refl

of_none : (n : ℕ) → n ≡ 0 → boolean_of n ≡ 0
of_none n h = ap boolean_of h

sum_is : (s : ℕ) (t : Bool) (n : ℕ) → (s == 0) ≡ t → (s ≡ 0 → n ≡ 0) → (0 < s → 0 < n) → boolean_byte (not t) ++ zeros 3 ≡ boolean_of n ∷ 0 ∷ 0 ∷ 0 ∷ []
sum_is s true n e z p = ap (λ x. x ∷ 0 ∷ 0 ∷ 0 ∷ []) (sym (of_none n (z (eqb-true s 0 e))))
sum_is zero false n e z p = absurd cc
sum_is (suc s) false n e z p = ap (λ x. x ∷ 0 ∷ 0 ∷ 0 ∷ []) (sym (of_more n (p (omega arith))))

pub boolean_word : (a b c d : ℕ) → boolean_byte (not (a + b + c + d == 0)) ++ zeros 3 ≡ number_boolean (a ∷ b ∷ c ∷ d ∷ [])
boolean_word a b c d =
    sum_is (a + b + c + d) (a + b + c + d == 0) (number (a ∷ b ∷ c ∷ d ∷ [])) refl (λ z. omega arith) (λ p. omega arith)

pub ruleset booleans = (boolean_word)

length-boolean : (t : Bool) → length (boolean_byte t ++ zeros 3) ≡ 4
length-boolean true = refl
length-boolean false = refl

pub length-setting : (n : ℕ) (t : Bool) → length (le4 n ++ (boolean_byte t ++ zeros 3)) ≡ 8
length-setting n t = omega (arith, length-append (le4 n) (boolean_byte t ++ zeros 3), length-le4 n, length-boolean t)

pub ruleset setting_sizes = (length-setting)
