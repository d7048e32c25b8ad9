-- The first attribute, by offsets, as code reads it.
use Rattle.std.proofs.Common.{◌≡◌, ℕ, ◌+◌, ◌-◌, ◌*◌, ◌<◌, ◌≤◌, false, List, [], ◌∷◌, length, take, drop, Option, Some, None, inl, inr, refl, sym, ap, subst, ◌∙◌, arith}
use Rattle.std.specs.Prelude.{◌&&◌, nat_le, option_map, slice_index}
use Rattle.std.proofs.lemmas.Bool.{and_left, and_right, lt-leb, cases_lt}
use Rattle.std.proofs.lemmas.List.{drop-drop}
use Rattle.netlink_packet_core_grammar.specs.Attributes.{nla_align, Attribute, attribute_of_size, first_attribute, attributes_of, IsAttributeList}
use Rattle.netlink_packet_core_grammar.specs.Numbers.{u16_at}
use Rattle.netlink_packet_core_grammar.specs.AttributeViews.{viewed_length, viewed_kind, viewed_attribute, BeginsWithAttribute, after_first}
use Rattle.netlink_packet_core_grammar.proofs.Attributes.{IsCut, cut_from, attributes_cut, cut_attributes, no_first_attribute, got, got_is}

-- the two numbers of a header, as sums
abbrev pub length_at : List ℕ → ℕ
length_at bytes = slice_index bytes 0 + 256 * slice_index bytes 1

abbrev pub kind_at : List ℕ → ℕ
kind_at bytes = slice_index bytes 2 + 256 * slice_index bytes 3

pub length_sum : (bytes : List ℕ) → viewed_length bytes ≡ length_at bytes
unfolding u16_at
length_sum bytes = omega arith

pub kind_sum : (bytes : List ℕ) → viewed_kind bytes ≡ kind_at bytes
unfolding u16_at
kind_sum bytes = omega arith

first_attribute_short : (bytes : List ℕ) → length bytes < 4 → first_attribute bytes ≡ None
unfolding first_attribute
first_attribute_short (a ∷ b ∷ c ∷ d ∷ bytes) h = absurd (omega arith)
first_attribute_short bytes h = refl

cut_none : (size kind : ℕ) (bytes : List ℕ) → (nat_le 4 size && nat_le size (4 + length bytes)) ≡ false → attribute_of_size size kind bytes ≡ None
cut_none size kind bytes h = rw h refl

first_attribute_small : (bytes : List ℕ) → 4 ≤ length bytes → length_at bytes < 4 → first_attribute bytes ≡ None
unfolding first_attribute
first_attribute_small (a ∷ b ∷ c ∷ d ∷ bytes) h s = cut_none (a + 256 * b) (c + 256 * d) bytes (and_left _ _ (lt-leb 4 (a + 256 * b) s))
first_attribute_small bytes h s = absurd (omega arith)

first_attribute_large : (bytes : List ℕ) → 4 ≤ length bytes → length bytes < length_at bytes → first_attribute bytes ≡ None
unfolding first_attribute
first_attribute_large (a ∷ b ∷ c ∷ d ∷ bytes) h s = cut_none (a + 256 * b) (c + 256 * d) bytes (and_right _ _ (lt-leb (a + 256 * b) (4 + length bytes) (omega arith)))
first_attribute_large bytes h s = absurd (omega arith)

drop_on : (n : ℕ) (a b c d : ℕ) (bytes : List ℕ) → 4 ≤ n → drop (n - 4) bytes ≡ drop n (a ∷ b ∷ c ∷ d ∷ bytes)
drop_on n a b c d bytes h =
    let e : 4 + (n - 4) ≡ n = omega arith in
    drop-drop (n - 4) 4 (a ∷ b ∷ c ∷ d ∷ bytes) ∙ ap (λ k. drop k (a ∷ b ∷ c ∷ d ∷ bytes)) e

first_attribute_at : (bytes rest : List ℕ) → 4 ≤ length bytes → 4 ≤ length_at bytes → length_at bytes ≤ length bytes → rest ≡ drop (nla_align (length_at bytes)) bytes → first_attribute bytes ≡ Some (record { kind = kind_at bytes; payload = take (length_at bytes - 4) (drop 4 bytes) }, rest)
unfolding first_attribute
first_attribute_at (a ∷ b ∷ c ∷ d ∷ bytes) rest h s t r =
    let size = a + 256 * b in
    let f : IsCut size (c + 256 * d) bytes (record { kind = c + 256 * d; payload = take (size - 4) bytes }) rest =
    record { small = s; large = omega arith; kind_is = refl; payload_is = refl; rest_is = drop_on (nla_align size) a b c d bytes (omega arith) ∙ sym r } in
    cut_from size (c + 256 * d) bytes (record { kind = c + 256 * d; payload = take (size - 4) bytes }) rest f
first_attribute_at bytes rest h s t r = absurd (omega arith)

-- bytes that begin with a whole attribute have this first attribute
pub first_attribute_is : (bytes : List ℕ) → BeginsWithAttribute bytes → first_attribute bytes ≡ Some (viewed_attribute bytes, after_first bytes)
first_attribute_is bytes a =
    let l = length_sum bytes in
    let k = kind_sum bytes in
    first_attribute_at bytes (after_first bytes) a.has_header (omega (arith, a.covers_header, l)) (omega (arith, a.within, l)) (ap (λ n. drop (nla_align n) bytes) l)
    ∙ ap (λ n. Some (record { kind = n; payload = take (length_at bytes - 4) (drop 4 bytes) }, after_first bytes)) (sym k)
    ∙ ap (λ n. Some (record { kind = viewed_kind bytes; payload = take (n - 4) (drop 4 bytes) }, after_first bytes)) (sym l)

-- other bytes have no first attribute
pub first_attribute_none : (bytes : List ℕ) → (BeginsWithAttribute bytes → ⊥) → first_attribute bytes ≡ None
first_attribute_none bytes n =
    let l = length_sum bytes in
    elim (cases_lt (length bytes) 4) [
      | inl a ↦ first_attribute_short bytes a
      | inr a ↦
          elim (cases_lt (length_at bytes) 4) [
            | inl b ↦ first_attribute_small bytes a b
            | inr b ↦
                elim (cases_lt (length bytes) (length_at bytes)) [
                  | inl c ↦ first_attribute_large bytes a c
                  | inr c ↦ absurd (n (record { has_header = a; covers_header = omega (arith, b, l); within = omega (arith, c, l) }))
                ]
          ]
    ]

-- ---- the steps of a walk

attributes_by : (bytes : List ℕ) (e : Attribute) (rest : List ℕ) → first_attribute bytes ≡ Some (e, rest) → (o p : Option (List Attribute)) → attributes_of bytes ≡ o → attributes_of rest ≡ p → o ≡ option_map (λ es. e ∷ es) p
attributes_by bytes e rest f None None a b = refl
attributes_by bytes e rest f None (Some es) a b = sym a ∙ cut_attributes bytes (e ∷ es) (rest, f, attributes_cut rest es b)
attributes_by bytes e rest f (Some []) p a b = absurd (no_first_attribute bytes (e, rest) (attributes_cut bytes [] a) f)
attributes_by bytes e rest f (Some (g ∷ gs)) p a b =
    let h = attributes_cut bytes (g ∷ gs) a in
    let same : (g, h.0) ≡ (e, rest) = got_is (g, h.0) (e, rest) (sym h.1 ∙ f) in
    let tail : IsAttributeList rest gs = subst (λ r. IsAttributeList r gs) (ap (λ (x : Attribute × List ℕ). x.1) same) h.2 in
    let p_is : Some gs ≡ p = sym (cut_attributes rest gs tail) ∙ b in
    ap (λ x. got (x ∷ gs)) (ap (λ (x : Attribute × List ℕ). x.0) same) ∙ ap (λ q. option_map (λ es. e ∷ es) q) p_is

pub attributes_step : (bytes : List ℕ) (e : Attribute) (rest : List ℕ) → first_attribute bytes ≡ Some (e, rest) → attributes_of bytes ≡ option_map (λ es. e ∷ es) (attributes_of rest)
attributes_step bytes e rest f = attributes_by bytes e rest f (attributes_of bytes) (attributes_of rest) refl refl

attributes_stop_by : (bytes : List ℕ) → first_attribute bytes ≡ None → 0 < length bytes → (o : Option (List Attribute)) → attributes_of bytes ≡ o → o ≡ None
attributes_stop_by bytes f l None a = refl
attributes_stop_by bytes f l (Some []) a = absurd (let e : length bytes ≡ 0 = ap length (attributes_cut bytes [] a) in omega arith)
attributes_stop_by bytes f l (Some (e ∷ es)) a =
    let h = attributes_cut bytes (e ∷ es) a in
    let k : got (e, h.0) ≡ None = sym h.1 ∙ f in
    absurd cc

pub attributes_stop : (bytes : List ℕ) → first_attribute bytes ≡ None → 0 < length bytes → attributes_of bytes ≡ None
attributes_stop bytes f l = attributes_stop_by bytes f l (attributes_of bytes) refl
