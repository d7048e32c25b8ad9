-- Sizes, counts and bytes of lists of attributes.
use Rattle.std.proofs.Common.{◌≡◌, ℕ, suc, ◌+◌, ◌*◌, ◌<◌, ◌≤◌, Bool, true, false, cond, List, [], ◌∷◌, length, arith}
use Rattle.std.specs.Prelude.{◌&&◌, nat_le, filter}
use Rattle.std.proofs.lemmas.Bool.{and_parts, leb-true}
use Rattle.netlink_packet_core_grammar.specs.Attributes.{Attribute, proper_kind, attribute_length, attribute_text, list_text, list_size, IsAttributeList}
use Rattle.netlink_packet_core_grammar.specs.Bytes.{AreBytes}
use Rattle.netlink_packet_core_grammar.proofs.Attributes.{sized}
use Rattle.netlink_packet_core_grammar.proofs.Bytes.{AreBytes-append, AreBytes-attribute_text, AreBytes-first_attribute}
use Rattle.attribute_tables_grammar.specs.Lists.{Context, Grammar, row_of, all_accepted, canonical_form, canonical_forms, all_fit, attributes_inside, LawfulGrammar}
use Rattle.attribute_tables_grammar.proofs.Attributes.{written_kind_small_by}

-- ---- the bytes that attributes take

abbrev pub weight : List Attribute → ℕ
weight [] = 0
weight (e ∷ es) = attribute_length e + weight es

pub weight_within : (bytes : List ℕ) (es : List Attribute) → IsAttributeList bytes es → weight es ≤ length bytes
weight_within bytes [] h = omega arith
weight_within bytes (e ∷ es) h =
    let s = sized bytes e h.0 h.1 in
    omega (arith, s.within, s.rest_length, weight_within h.0 es h.2)

pub weight-filter : (t : Attribute → Bool) (es : List Attribute) → weight (filter t es) + 4 * length es ≤ weight es + 4 * length (filter t es)
weight-filter t [] = omega arith
weight-filter t (e ∷ es) = go (t e) (weight-filter t es)
  where
    go : (b : Bool) → weight (filter t es) + 4 * length es ≤ weight es + 4 * length (filter t es) → weight (cond b (e ∷ filter t es) (filter t es)) + 4 * suc (length es) ≤ weight (e ∷ es) + 4 * length (cond b (e ∷ filter t es) (filter t es))
    go true h = omega arith
    go false h = omega arith

pub weight-filter_le : (t : Attribute → Bool) (es : List Attribute) → weight (filter t es) ≤ weight es
weight-filter_le t [] = omega arith
weight-filter_le t (e ∷ es) = go (t e) (weight-filter_le t es)
  where
    go : (b : Bool) → weight (filter t es) ≤ weight es → weight (cond b (e ∷ filter t es) (filter t es)) ≤ weight (e ∷ es)
    go true h = omega arith
    go false h = omega arith

-- ---- attributes that hold bytes

abbrev pub AreAttributes : List Attribute → Type 0
AreAttributes [] = Unit {0}
AreAttributes (e ∷ es) = (e.kind < 65536) × AreBytes e.payload × AreAttributes es

pub AreAttributes-cut : (bytes : List ℕ) (es : List Attribute) → IsAttributeList bytes es → AreBytes bytes → AreAttributes es
AreAttributes-cut bytes [] h b = tt
AreAttributes-cut bytes (e ∷ es) h b =
    let f = AreBytes-first_attribute bytes e h.0 h.1 b in
    (f.0, f.1, AreAttributes-cut h.0 es h.2 f.2)

pub AreAttributes-filter : (t : Attribute → Bool) (es : List Attribute) → AreAttributes es → AreAttributes (filter t es)
AreAttributes-filter t [] h = tt
AreAttributes-filter t (e ∷ es) h = go (t e) (AreAttributes-filter t es h.2)
  where
    go : (b : Bool) → AreAttributes (filter t es) → AreAttributes (cond b (e ∷ filter t es) (filter t es))
    go true k = (h.0, h.1, k)
    go false k = k

module _ (g : Grammar) (lawful : LawfulGrammar g) where
  pub rewritten_small : (c : Context) (es : List Attribute) → all_accepted g c es ≡ true → list_size (canonical_forms g c es) ≤ 77 * weight es
  unfolding all_accepted canonical_forms
  rewritten_small c [] a = omega arith
  rewritten_small c (e ∷ es) a =
      let b = and_parts _ _ a in
      omega (arith, (lawful.rows c (proper_kind e.kind)).bounded e.payload b.0, rewritten_small (g.next c e) es b.1)

  pub counts : (c : Context) (es : List Attribute) → all_accepted g c es ≡ true → 4 * length es + 4 * attributes_inside g c es ≤ weight es
  unfolding all_accepted attributes_inside
  counts c [] a = omega arith
  counts c (e ∷ es) a =
      let b = and_parts _ _ a in
      omega (arith, (lawful.rows c (proper_kind e.kind)).counted e.payload b.0, counts (g.next c e) es b.1)

  pub text_bytes : (c : Context) (es : List Attribute) → all_accepted g c es ≡ true → all_fit g c es ≡ true → AreAttributes es → AreBytes (list_text (canonical_forms g c es))
  unfolding all_accepted all_fit canonical_forms list_text
  text_bytes c [] a f h = tt
  text_bytes c (e ∷ es) a f h =
      let b = and_parts _ _ a in
      let r = row_of g c e in
      let f1 = and_parts (nat_le (4 + length (r.rule.canonical e.payload)) 65535 && r.rule.fits e.payload) (all_fit g (g.next c e) es) f in
      let f2 = and_parts (nat_le (4 + length (r.rule.canonical e.payload)) 65535) (r.rule.fits e.payload) f1.0 in
      let inside = (lawful.rows c (proper_kind e.kind)).bytes e.payload b.0 f2.1 h.1 in
      AreBytes-append (attribute_text (canonical_form r e)) (list_text (canonical_forms g (g.next c e) es))
      (AreBytes-attribute_text (canonical_form r e) (leb-true _ _ f2.0) (written_kind_small_by r.is_typed r.is_nested e.kind h.0) inside)
      (text_bytes (g.next c e) es b.1 f1.1 h.2)
