-- Bodies under the 16 bytes of a header, which have its first fields and no attributes.
use Rattle.std.proofs.Common.{◌≡◌, ℕ, ◌+◌, ◌*◌, ◌<◌, ◌≤◌, min, Bool, true, false, cond, List, [], ◌∷◌, length, take, ◌⊎◌, inl, inr, refl, sym, ap, ◌∙◌, arith, length-append}
use Rattle.std.specs.Prelude.{◌&&◌, bytes_eq}
use Rattle.std.proofs.Math.ListN.{drop_of_length-le}
use Rattle.std.proofs.lemmas.Bool.Decides.{leb_tells}
use Rattle.std.proofs.lemmas.List.{length-take}
use Rattle.std.proofs.lemmas.Slice.Eq.{bytes_eq-Decides}
use Rattle.netlink_packet_core_grammar.specs.Attributes.{attributes_within}
use Rattle.attribute_tables_grammar.specs.Lists.{all_same}
use Rattle.attribute_tables_grammar.specs.Peers.{RuleOfPeers}
use Rattle.link_message_grammar.specs.LinkMessage.{Family}
use Rattle.link_message_grammar.specs.Body.{attribute_bytes, family, header_text, has_layer_type_name, layer_type_text, attributes_rule}

two_bytes : (v : Bool) (a b : ℕ) → length (cond v (a ∷ b ∷ []) (255 ∷ 255 ∷ [])) ≡ 2
two_bytes true a b = refl
two_bytes false a b = refl

header_size : (b : List ℕ) → 4 ≤ length b → length (header_text b) ≡ min (length b) 16
header_size (f ∷ x ∷ k ∷ l ∷ tail) long =
    let layer = two_bytes (has_layer_type_name (k + 256 * l)) k l in
    let all = length-append (layer_type_text k l) (take 12 tail) in
    omega (arith, layer, all, length-take 12 tail)
header_size b long = absurd (omega arith)

short_header : (b : List ℕ) → length b < 16 → length (header_text b) < 16
short_header (f ∷ x ∷ k ∷ l ∷ tail) short = omega (arith, header_size (f ∷ x ∷ k ∷ l ∷ tail) (omega arith), short)
short_header b short = omega arith

both_short : (a b : List ℕ) → header_text a ≡ header_text b → length a < 16 → length b < 16
both_short a b e short = elim (leb_tells 16 (length b)) [
  | inl m ↦ let l : 16 ≤ length b = m.1 in absurd (omega (arith, ap length e, short_header a short, header_size b (omega (arith, l)), l))
  | inr m ↦ m.1
]

cut_off : (b : List ℕ) → length b < 16 → attribute_bytes b ≡ []
cut_off b short = let l : length b ≤ 16 = omega (arith, short) in drop_of_length-le b l

no_attributes : (p : RuleOfPeers) (f : Family) → (attributes_rule p f).same [] [] ≡ true
unfolding attributes_rule attributes_within all_same
no_attributes p f = refl

module _ (p : RuleOfPeers) (a b : List ℕ) where
  abbrev headers_same : Bool
  headers_same = bytes_eq (header_text a) (header_text b)

  abbrev attributes_same : Bool
  attributes_same = (attributes_rule p (family a)).same (attribute_bytes a) (attribute_bytes b)

  abbrev one_short : Type 0
  one_short = (length a < 16) ⊎ ((16 ≤ length a) × (length b < 16))

  none_after_prefix : length a < 16 → length b < 16 → attributes_same ≡ true
  none_after_prefix l m = (λ i. (attributes_rule p (family a)).same (cut_off a l i) (cut_off b m i)) ∙ no_attributes p (family a)

  both : one_short → header_text a ≡ header_text b → (length a < 16) × (length b < 16)
  both (inl l) e = (l, both_short a b e l)
  both (inr m) e = (both_short b a (sym e) m.1, m.1)

  by : one_short → (v : Bool) → headers_same ≡ v → v ≡ (v && attributes_same)
  by s false e = refl
  by s true e = let t = both s ((bytes_eq-Decides (header_text a) (header_text b)).0 e) in sym (none_after_prefix t.0 t.1)

  -- If one of two bodies is cut short, their headers determine whether they mean the same.
  pub headers_determine : one_short → headers_same ≡ (headers_same && attributes_same)
  headers_determine s = by s headers_same refl
