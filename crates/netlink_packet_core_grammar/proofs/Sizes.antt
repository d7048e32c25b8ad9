-- The lengths of written attributes and numbers.
use Rattle.std.proofs.Common.{◌≡◌, ℕ, ◌+◌, ◌-◌, ◌%◌, List, [], ◌∷◌, ◌++◌, length, refl, arith, length-append}
use Rattle.std.proofs.lemmas.List.{length-replicate}
use Rattle.netlink_packet_core_grammar.specs.Attributes.{nla_align, Attribute, attribute_length, zeros, attribute_text, list_text, list_size}
use Rattle.netlink_packet_core_grammar.specs.Numbers.{le2, le4, le8, le16, be2, be4, be8, be16}

pub length-attribute_text : (e : Attribute) → length (attribute_text e) ≡ nla_align (attribute_length e)
unfolding attribute_text
length-attribute_text e =
    let z = zeros (nla_align (attribute_length e) - attribute_length e) in
    omega (arith, length-append e.payload z, length-replicate {A = ℕ} (nla_align (attribute_length e) - attribute_length e) 0)

pub length-list_text : (es : List Attribute) → length (list_text es) ≡ list_size es
unfolding list_text
length-list_text [] = refl
length-list_text (e ∷ es) = omega (arith, length-append (attribute_text e) (list_text es), length-attribute_text e, length-list_text es)

pub text_fours : (es : List Attribute) → list_size es % 4 ≡ 0
text_fours [] = refl
text_fours (e ∷ es) = omega (arith, text_fours es)

pub length-le2 : (n : ℕ) → length (le2 n) ≡ 2
unfolding le2
length-le2 n = refl

pub length-le4 : (n : ℕ) → length (le4 n) ≡ 4
unfolding le4
length-le4 n = refl

pub length-le8 : (n : ℕ) → length (le8 n) ≡ 8
unfolding le8
length-le8 n = refl

pub length-le16 : (n : ℕ) → length (le16 n) ≡ 16
unfolding le16
length-le16 n = refl

pub length-be2 : (n : ℕ) → length (be2 n) ≡ 2
unfolding be2
length-be2 n = refl

pub length-be4 : (n : ℕ) → length (be4 n) ≡ 4
unfolding be4
length-be4 n = refl

pub length-be8 : (n : ℕ) → length (be8 n) ≡ 8
unfolding be8
length-be8 n = refl

pub length-be16 : (n : ℕ) → length (be16 n) ≡ 16
unfolding be16
length-be16 n = refl

pub length-le2-append : (n : ℕ) (r : List ℕ) → length (le2 n ++ r) ≡ 2 + length r
unfolding le2
length-le2-append n r = length-append (le2 n) r

pub length-le4-append : (n : ℕ) (r : List ℕ) → length (le4 n ++ r) ≡ 4 + length r
unfolding le4
length-le4-append n r = length-append (le4 n) r

pub ruleset sizes = (length-le2, length-le4, length-le8, length-le16, length-be2, length-be4, length-be8, length-be16, length-le2-append, length-le4-append)
