-- Whole lists are attributes, each with its padding.
use Rattle.std.proofs.Common.{◌≡◌, ℕ, zero, suc, ◌+◌, ◌-◌, ◌≤◌, Bool, true, false, cond, List, [], ◌∷◌, length, take, Option, Some, None, refl, sym, ap, subst, ◌∙◌, arith}
use Rattle.std.specs.Prelude.{⊤, ◌*◌, ◌/◌, ◌%◌, ◌==◌, nat_le}
use Rattle.std.specs.List.{AllByRecursion}
use Rattle.std.proofs.lemmas.Bool.{and_parts, eqb-true, leb-true}
use Rattle.std.proofs.lemmas.List.{length-drop, length-take}
use Rattle.std.proofs.lemmas.Option.{same_Some}
use Rattle.netlink_packet_core_grammar.specs.Attributes.{Attribute, attribute_length, first_attribute, nla_align, zeros}
use Rattle.netlink_packet_core_grammar.specs.Bytes.{AreBytes}
use Rattle.netlink_packet_core_grammar.proofs.Attributes.{headed, sized}
use Rattle.netlink_packet_core_grammar.proofs.Bytes.{AreBytes-drop, AreBytes-first_attribute, AreBytes-take}
use Rattle.link_lines_values.specs.Bytes.{is_zero}
use Rattle.link_lines_values.proofs.ValuesDetermined.{both_parts}
pub use Rattle.link_lines_parts.proofs.WholeLists.{cut_part, rest_is}
use Rattle.link_lines_parts.proofs.WholeLists.{step}
use Rattle.link_lines_parts.specs.Whole.{is_padded, is_whole, padding_after, shown_padding}
use Rattle.link_lines_raw.specs.Laws.{IsEncodable}

-- An attribute, and the padding after it that lines show.
abbrev pub Item : Type 0
Item = Attribute × Option (List ℕ)

-- The kind has 2 bytes, and payload and padding consist of bytes.
abbrev pub IsPaddingOfBytes : Option (List ℕ) → Type 0
IsPaddingOfBytes None = ⊤
IsPaddingOfBytes (Some p) = AreBytes p

pub record IsItem (x : Item) : Type 0 where
  pub attribute : IsEncodable x.0
  pub padding : IsPaddingOfBytes x.1

abbrev pub AreEncodable : List Item → Type 0
AreEncodable items = AllByRecursion IsItem items

-- What bytes consist of.
abbrev pub AreItems : List ℕ → List Item → Type 0
AreItems p [] = p ≡ []
AreItems p (x ∷ items) =
    (rest : List ℕ) × (first_attribute p ≡ Some (x.0, rest)) × (shown_padding (attribute_length x.0) p ≡ x.1) × AreItems rest items

-- ---- bytes are determined by what they consist of

aligned : (n : ℕ) → n ≤ nla_align n
aligned n = omega arith

zeros_are : (p : List ℕ) (n : ℕ) → length p ≡ n → is_zero p ≡ true → p ≡ zeros n
zeros_are [] zero l h = refl
zeros_are [] (suc n) l h = absurd (omega (arith, l))
zeros_are (b ∷ p) zero l h = absurd (omega (arith, l))
zeros_are (b ∷ p) (suc n) l h =
    let parts = and_parts (b == 0) (is_zero p) h in
    let first : b ≡ 0 = eqb-true b 0 parts.0 in
    let rest : p ≡ zeros n = zeros_are p n (omega (arith, l)) parts.1 in
    λ i. first i ∷ rest i

padded_zeros : (n : ℕ) (p : List ℕ) → is_padded n p ≡ true → padding_after n p ≡ zeros (nla_align n - n)
padded_zeros n p h =
    let parts = and_parts (nat_le (nla_align n) (length p)) (is_zero (padding_after n p)) h in
    let size = leb-true (nla_align n) (length p) parts.0 in
    zeros_are (padding_after n p) (nla_align n - n) (omega (arith, length-drop n (take (nla_align n) p), length-take (nla_align n) p, size)) parts.1

same_by : (n : ℕ) (p q : List ℕ) (b c : Bool) → is_padded n p ≡ b → is_padded n q ≡ c → cond b None (Some (padding_after n p)) ≡ cond c None (Some (padding_after n q)) → padding_after n p ≡ padding_after n q
same_by n p q true true h i e = padded_zeros n p h ∙ sym (padded_zeros n q i)
same_by n p q true false h i e = absurd cc
same_by n p q false true h i e = absurd cc
same_by n p q false false h i e = same_Some (padding_after n p) (padding_after n q) e

pub take_less : (m n : ℕ) (p : List ℕ) → m ≤ n → take m (take n p) ≡ take m p
take_less zero n p h = refl
take_less (suc m) zero p h = absurd (omega (arith, h))
take_less (suc m) (suc n) [] h = refl
take_less (suc m) (suc n) (x ∷ p) h = ap (λ z. x ∷ z) (take_less m n p (omega (arith, h)))

-- The bytes of an attribute.
start_is : (p : List ℕ) (e : Attribute) (rest : List ℕ) → AreBytes p → first_attribute p ≡ Some (e, rest) →
    take (attribute_length e) p ≡ attribute_length e % 256 ∷ attribute_length e / 256 ∷ e.kind % 256 ∷ e.kind / 256 ∷ e.payload
start_is p e rest a h =
    let k = headed p e rest h in
    let n = attribute_length e in
    let size = k.a + 256 * k.b in
    let bytes : AreBytes (k.a ∷ k.b ∷ k.c ∷ k.d ∷ k.tail) = subst AreBytes k.is a in
    let length_is : n ≡ size = omega (arith, ap length (sym k.is_cut.payload_is), length-take (size - 4) k.tail, k.is_cut.small, k.is_cut.large) in
    let low : k.a ≡ n % 256 = omega (arith, length_is, bytes.0, bytes.1.0) in
    let high : k.b ≡ n / 256 = omega (arith, length_is, bytes.0, bytes.1.0) in
    let kind_low : k.c ≡ e.kind % 256 = omega (arith, k.is_cut.kind_is, bytes.1.1.0, bytes.1.1.1.0) in
    let kind_high : k.d ≡ e.kind / 256 = omega (arith, k.is_cut.kind_is, bytes.1.1.0, bytes.1.1.1.0) in
    ap (take n) k.is ∙ ap (λ m. take m (k.a ∷ k.b ∷ k.c ∷ k.d ∷ k.tail)) {x = n} {y = suc (suc (suc (suc (size - 4))))} (omega (arith, length_is, k.is_cut.small))
    ∙ (λ i. low i ∷ high i ∷ kind_low i ∷ kind_high i ∷ k.is_cut.payload_is i)

first_determined : (p q : List ℕ) (e : Attribute) (rest : List ℕ) → AreBytes p → AreBytes q → first_attribute p ≡ Some (e, rest) → first_attribute q ≡ Some (e, rest) → shown_padding (attribute_length e) p ≡ shown_padding (attribute_length e) q → p ≡ q
first_determined p q e rest a b h i padding =
    let n = attribute_length e in
    let m = nla_align n in
    let shorter = aligned n in
    let start : take n (take m p) ≡ take n (take m q) = take_less n m p shorter ∙ start_is p e rest a h ∙ sym (start_is q e rest b i) ∙ sym (take_less n m q shorter) in
    let whole : take m p ≡ take m q = both_parts n (take m p) (take m q) start (same_by n p q (is_padded n p) (is_padded n q) refl refl padding) in
    both_parts m p q whole (sym (rest_is p e rest h) ∙ rest_is q e rest i)

pub items_determine : (p q : List ℕ) (items : List Item) → AreBytes p → AreBytes q → AreItems p items → AreItems q items → p ≡ q
items_determine p q [] a b h i = h ∙ sym i
items_determine p q (x ∷ items) a b h i =
    let more = items_determine h.0 i.0 items (AreBytes-first_attribute p x.0 h.0 h.1 a).2 (AreBytes-first_attribute q x.0 i.0 i.1 b).2 h.3 i.3 in
    first_determined p q x.0 i.0 a b (h.1 ∙ ap (λ z. Some (x.0, z)) more) i.1 (h.2 ∙ sym i.2)

-- ---- what a whole list consists of

pub record Listing (p : List ℕ) : Type 0 where
  pub items : List Item
  pub are : AreItems p items
  pub encodable : AreEncodable items

shown_by : (b : Bool) (s : List ℕ) → AreBytes s → IsPaddingOfBytes (cond b None (Some s))
shown_by true s a = record {}
shown_by false s a = a

within : (n : ℕ) (p : List ℕ) → length p ≤ n → AreBytes p → is_whole p ≡ true → Listing p
within n [] l a h = record { items = []; are = refl; encodable = record {} }
within zero (b ∷ p) l a h = absurd (omega (arith, l))
within (suc n) (b ∷ p) l a h =
    let s = step b p h in
    let size = attribute_length s.e in
    let bytes = AreBytes-first_attribute (b ∷ p) s.e s.rest s.first a in
    let z = sized (b ∷ p) s.e s.rest s.first in
    let al = aligned size in
    let more = within n s.rest (omega (arith, l, z.within, z.rest_length, al)) bytes.2 s.more in
    let padding = shown_by (is_padded size (b ∷ p)) (padding_after size (b ∷ p)) (AreBytes-drop size (take (nla_align size) (b ∷ p)) (AreBytes-take (nla_align size) (b ∷ p) a)) in
    record {
      items = (s.e, shown_padding size (b ∷ p)) ∷ more.items;
      are = (s.rest, s.first, refl, more.are);
      encodable = (record { attribute = record { kind = bytes.0; payload = bytes.1 }; padding = padding }, more.encodable);
    }

pub listing : (p : List ℕ) → AreBytes p → is_whole p ≡ true → Listing p
listing p a h = within (length p) p (omega arith) a h
