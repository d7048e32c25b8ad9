-- Whole lists of attributes, one attribute after the other.
use Rattle.std.proofs.Common.{◌≡◌, ℕ, zero, suc, ◌+◌, ◌-◌, ◌*◌, ◌<◌, ◌≤◌, true, false, List, [], ◌∷◌, length, take, drop, Option, Some, None, refl, sym, ap, ◌∙◌, arith}
use Rattle.std.specs.Prelude.{◌&&◌, Bool, cond, nat_le}
use Rattle.std.proofs.lemmas.Bool.{le-leb}
use Rattle.std.proofs.lemmas.List.{drop-take, length-take}
use Rattle.netlink_packet_core_grammar.specs.Attributes.{Attribute, attribute_length, first_attribute, nla_align}
use Rattle.netlink_packet_core_grammar.proofs.Attributes.{headed, sized}
use Rattle.link_lines_values.specs.Bytes.{is_zero}
use Rattle.link_lines_parts.specs.Whole.{is_attribute, is_padded, is_whole, is_whole_after, padded_length, padding_after, shown_padding}

-- The bytes after some that are skipped.
pub skipped : (skip : ℕ) (p : List ℕ) → is_whole_after skip p ≡ is_whole_after 0 (drop skip p)
unfolding is_whole_after
skipped zero p = refl
skipped (suc n) [] = refl
skipped (suc n) (b ∷ p) = skipped n p

-- The bytes from one offset to another.
pub cut_part : (n m : ℕ) (p : List ℕ) → n ≤ m → take (m - n) (drop n p) ≡ drop n (take m p)
cut_part n m p h = sym (drop-take n (m - n) p) ∙ ap (λ k. drop n (take k p)) {x = n + (m - n)} {y = m} (omega (arith, h))

aligned : (n : ℕ) → n ≤ nla_align n
aligned n = omega arith

-- The first attribute of a whole list, and the rest of the list.
pub record Step (p : List ℕ) : Type 0 where
  pub e : Attribute
  pub rest : List ℕ
  pub first : first_attribute p ≡ Some (e, rest)
  pub more : is_whole rest ≡ true

-- The bytes after the first attribute.
pub rest_is : (p : List ℕ) (e : Attribute) (rest : List ℕ) → first_attribute p ≡ Some (e, rest) → rest ≡ drop (nla_align (attribute_length e)) p
rest_is p e rest h =
    let k = headed p e rest h in
    let n = k.a + 256 * k.b in
    let s = sized p e rest h in
    let length_is : attribute_length e ≡ n = omega (arith, ap length (sym k.is_cut.payload_is), length-take (n - 4) k.tail, k.is_cut.small, k.is_cut.large) in
    sym k.is_cut.rest_is ∙ ap (λ m. drop m (k.a ∷ k.b ∷ k.c ∷ k.d ∷ k.tail)) {x = suc (suc (suc (suc (nla_align n - 4))))} {y = nla_align (attribute_length e)} (omega (arith, length_is, k.is_cut.small)) ∙ ap (drop (nla_align (attribute_length e))) (sym k.is)

first_by : (b : ℕ) (p : List ℕ) (o : Option (Attribute × List ℕ)) → first_attribute (b ∷ p) ≡ o → (is_attribute o && is_whole_after (padded_length o - 1) p) ≡ true → Step (b ∷ p)
first_by b p None f h = absurd cc
first_by b p (Some x) f h =
    let n = nla_align (attribute_length x.0) in
    let a = aligned (attribute_length x.0) in
    let rest : drop (n - 1) p ≡ x.1 = ap (λ m. drop m (b ∷ p)) {x = suc (n - 1)} {y = n} (omega (arith, a)) ∙ sym (rest_is (b ∷ p) x.0 x.1 f) in
    record { e = x.0; rest = x.1; first = f; more = ap is_whole (sym rest) ∙ sym (skipped (n - 1) p) ∙ h }

pub step : (b : ℕ) (p : List ℕ) → is_whole (b ∷ p) ≡ true → Step (b ∷ p)
unfolding is_whole_after
step b p h = first_by b p (first_attribute (b ∷ p)) refl h

-- ---- one attribute after the other

next_by : (b : ℕ) (p : List ℕ) (o : Option (Attribute × List ℕ)) (e : Attribute) (rest : List ℕ) → first_attribute (b ∷ p) ≡ o → o ≡ Some (e, rest) → (is_attribute o && is_whole_after (padded_length o - 1) p) ≡ is_whole rest
next_by b p o e rest f h =
    let n = nla_align (attribute_length e) in
    let a = aligned (attribute_length e) in
    let more : drop (n - 1) p ≡ rest = ap (λ m. drop m (b ∷ p)) {x = suc (n - 1)} {y = n} (omega (arith, a)) ∙ sym (rest_is (b ∷ p) e rest (f ∙ h)) in
    ap (λ z. is_attribute z && is_whole_after (padded_length z - 1) p) h ∙ skipped (n - 1) p ∙ ap is_whole more

-- A list is whole if what follows its first attribute is.
pub whole_next : (p : List ℕ) (e : Attribute) (rest : List ℕ) → first_attribute p ≡ Some (e, rest) → is_whole p ≡ is_whole rest
unfolding is_whole_after
whole_next [] e rest h = absurd (let s = (sized [] e rest h).within in omega (arith, s))
whole_next (b ∷ p) e rest h = next_by b p (first_attribute (b ∷ p)) e rest refl h

pub whole_none : (p : List ℕ) → first_attribute p ≡ None → 0 < length p → is_whole p ≡ false
unfolding is_whole_after
whole_none [] h l = absurd (omega (arith, l))
whole_none (b ∷ p) h l = ap (λ o. is_attribute o && is_whole_after (padded_length o - 1) p) h

pub whole_empty : (p : List ℕ) → length p ≡ 0 → is_whole p ≡ true
unfolding is_whole_after
whole_empty [] l = refl
whole_empty (b ∷ p) l = absurd (omega (arith, l))

-- ---- padding that lines show

-- Padding that is all there, up to the offset m.
pub shown_up_to : (n m : ℕ) (p : List ℕ) (b : Bool) → m ≡ nla_align n → m ≤ length p → is_zero (take (m - n) (drop n p)) ≡ b → cond b None (Some (take (m - n) (drop n p))) ≡ shown_padding n p
shown_up_to n m p b e l h =
    let a = aligned n in
    let same : take (m - n) (drop n p) ≡ padding_after n p = cut_part n m p (omega (arith, e, a)) ∙ ap (λ k. drop n (take k p)) e in
    let there : nat_le (nla_align n) (length p) ≡ true = le-leb (nla_align n) (length p) (omega (arith, e, l)) in
    let whole : is_padded n p ≡ b = ap (λ c. c && is_zero (padding_after n p)) there ∙ ap is_zero (sym same) ∙ h in
    ap (λ z. cond b None (Some z)) same ∙ ap (λ c. cond c None (Some (padding_after n p))) (sym whole)
