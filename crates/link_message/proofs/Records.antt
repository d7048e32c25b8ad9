-- Numbers, texts and raw attributes with equal bytes are equal.
use Rattle.std.proofs.Common.{◌≡◌, ℕ, List, [], ◌∷◌, ◌++◌, length, take, drop, Bool, true, refl, sym, ap, ◌∙◌, arith, String, Global, string_bytes, length-append}
use Rattle.std.specs.Prelude.{string_eq}
use Rattle.std.proofs.lemmas.Bool.{and_from, eq-eqb}
use lib.Pointwise.{bytes_decides}
use Rattle.netlink_packet_core.specs.Attributes.{Attribute}
use Rattle.netlink_packet_core_grammar.specs.Numbers.{le2, le4}
use Rattle.link_message.specs.Injective.{IsInjective}
use Rattle.netlink_packet_core_attributes.specs.contracts.nla.DefaultNlaPartialEq.TheImpl as raw_equality
use Rattle.netlink_packet_core_grammar.proofs.Numbers.{from_le2, from_le4}
use Rattle.std.specs.Int.{w16, w32, from_le_bytes}
use Rattle.link_message.proofs.Lists.{first_equal, rest_equal}

pub le2_injective : (m n : ℕ) → le2 m ≡ le2 n → m ≡ n
le2_injective m n e = sym (from_le2 m) ∙ ap (from_le_bytes w16) e ∙ from_le2 n

pub le4_injective : (m n : ℕ) → le4 m ≡ le4 n → m ≡ n
le4_injective m n e = sym (from_le4 m) ∙ ap (from_le_bytes w32) e ∙ from_le4 n

pub number_4_equal : (m n : ℕ) (xs ys : List ℕ) → le4 m ++ xs ≡ le4 n ++ ys → m ≡ n
unfolding le4
number_4_equal m n xs ys e = le4_injective m n (ap (take 4) e)

pub after_4_equal : (m n : ℕ) (xs ys : List ℕ) → le4 m ++ xs ≡ le4 n ++ ys → xs ≡ ys
unfolding le4
after_4_equal m n xs ys e = ap (drop 4) e

pub number_2_equal : (m n : ℕ) (xs ys : List ℕ) → le2 m ++ xs ≡ le2 n ++ ys → m ≡ n
unfolding le2
number_2_equal m n xs ys e = le2_injective m n (ap (take 2) e)

pub after_2_equal : (m n : ℕ) (xs ys : List ℕ) → le2 m ++ xs ≡ le2 n ++ ys → xs ≡ ys
unfolding le2
after_2_equal m n xs ys e = ap (drop 2) e

pub without_last : (xs ys : List ℕ) → xs ++ 0 ∷ [] ≡ ys ++ 0 ∷ [] → xs ≡ ys
without_last [] [] e = refl
without_last [] (y ∷ ys) e = absurd (omega (arith, ap length e, length-append ys (0 ∷ [])))
without_last (x ∷ xs) [] e = absurd (omega (arith, ap length e, length-append xs (0 ∷ [])))
without_last (x ∷ xs) (y ∷ ys) e = let a = first_equal _ _ _ _ e in let b = without_last xs ys (rest_equal _ _ _ _ e) in λ i. a i ∷ b i

pub string_same : (x y : String Global) → string_bytes x ++ 0 ∷ [] ≡ string_bytes y ++ 0 ∷ [] → string_eq x y ≡ true
string_same x y e = (bytes_decides x.bytes.items y.bytes.items).1 (without_last (string_bytes x) (string_bytes y) e)

abbrev raw_equal : Attribute → Attribute → Bool
raw_equal = (raw_equality.ghosts).eq

pub raw_injective : IsInjective raw_equal (λ a. a) (λ _. Unit {0})
raw_injective a b p q e =
    and_from _ _ (eq-eqb a.kind b.kind (ap (λ (x : Attribute). x.kind) e)) ((bytes_decides a.payload b.payload).1 (ap (λ (x : Attribute). x.payload) e))
