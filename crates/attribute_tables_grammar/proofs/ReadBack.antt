-- A canonical encoding is read as the bytes that it was made from.
use Rattle.std.proofs.Common.{◌≡◌, ◌+◌, ℕ, true, false, cond, List, [], ◌∷◌, length, refl, sym, ap, ◌∙◌}
use Rattle.std.specs.Prelude.{◌&&◌, nat_le, Option, Some, None, option_map}
use Rattle.std.proofs.lemmas.Bool.{and_parts, or_parts}
use Rattle.std.specs.Option.{option_and_then, option_map_or}
use Rattle.netlink_packet_core_grammar.specs.Attributes.{Attribute, proper_kind, list_text, attributes_of}
use Rattle.netlink_packet_core_grammar.proofs.Attributes.{attributes_of_text}
use Rattle.attribute_tables_grammar.specs.Rules.{Lawful}
use Rattle.attribute_tables_grammar.specs.Laws.{CanonicalListsAreSplit, ListsAreReadBack}
use Rattle.attribute_tables_grammar.specs.Lists.{Context, no_kind_in_force, Grammar, LawfulGrammar, any, kept, list_rule, row_of, canonical_form, canonical_forms, all_accepted, all_fit, some_empty_ports}
use Rattle.attribute_tables_grammar.specs.Readings.{attribute_reading, attribute_readings, reading_as}
use Rattle.attribute_tables_grammar.proofs.Attributes.{proper_kind-written, row_migrates_reflexive, next_canonical, rewrite_idempotent}

pub canonical_is_cut : CanonicalListsAreSplit
canonical_is_cut form g bytes es h =
    ap attributes_of (ap (λ o. option_map_or (λ fs. list_text (canonical_forms g no_kind_in_force (kept form fs))) o []) h) ∙ attributes_of_text (canonical_forms g no_kind_in_force (kept form es))

-- ---- attributes, one after another

module _ (g : Grammar) (lawful : LawfulGrammar g) where
  -- an attribute in canonical form is accepted, and has the same reading
  one_read_back : (c : Context) (e : Attribute) → (row_of g c e).rule.accepted e.payload ≡ true → (row_of g c e).rule.empty_ports e.payload ≡ false → (row_of g c e).rule.fits e.payload ≡ true →
      ((row_of g c (canonical_form (row_of g c e) e)).rule.accepted (canonical_form (row_of g c e) e).payload ≡ true) × (attribute_reading (row_of g c (canonical_form (row_of g c e) e)) (canonical_form (row_of g c e) e) ≡ attribute_reading (row_of g c e) e)
  one_read_back c e a m f =
      let r = row_of g c e in
      let e' = canonical_form r e in
      let law : Lawful r.rule = lawful.rows c (proper_kind e.kind) in
      let row : row_of g c e' ≡ r = ap (g.row c) (proper_kind-written r e.kind) in
      let accepted : (row_of g c e').rule.accepted e'.payload ≡ true = ap (λ s. s.rule.accepted e'.payload) row ∙ (law.canonical_accepted e.payload a m).0 in
      let fits : (row_of g c e').rule.fits e'.payload ≡ r.rule.fits e.payload = ap (λ s. s.rule.fits e'.payload) row ∙ law.canonical_fits e.payload a f ∙ sym f in
      let entry = rewrite_idempotent g lawful g.row (λ c k. row_migrates_reflexive (g.row c k) (lawful.rows c k)) c e a a in
      (accepted, λ i. record { entry = entry i; inside_fits = fits i })

  list_canonical : (c : Context) (es : List Attribute) → all_accepted g c es ≡ true → some_empty_ports g c es ≡ false → all_fit g c es ≡ true → attribute_readings g c (canonical_forms g c es) ≡ attribute_readings g c es
  unfolding all_accepted some_empty_ports all_fit canonical_forms attribute_readings
  list_canonical c [] a m f = refl
  list_canonical c (e ∷ es) a m f =
      let r = row_of g c e in
      let e' = canonical_form r e in
      let rest = canonical_forms g (g.next c e) es in
      let accepted = and_parts _ _ a in
      let full = or_parts _ _ m in
      let fits = and_parts (nat_le (4 + length (r.rule.canonical e.payload)) 65535 && r.rule.fits e.payload) (all_fit g (g.next c e) es) f in
      let fit = and_parts (nat_le (4 + length (r.rule.canonical e.payload)) 65535) (r.rule.fits e.payload) fits.0 in
      let one = one_read_back c e accepted.0 full.0 fit.1 in
      ap (λ b. cond b (option_map (λ ws. attribute_reading (row_of g c e') e' ∷ ws) (attribute_readings g (g.next c e') rest)) None) (one.0 ∙ sym accepted.0)
      ∙ ap (λ w. cond (r.rule.accepted e.payload) (option_map (λ ws. w ∷ ws) (attribute_readings g (g.next c e') rest)) None) one.1
      ∙ ap (λ d. cond (r.rule.accepted e.payload) (option_map (λ ws. attribute_reading r e ∷ ws) (attribute_readings g d rest)) None) (next_canonical g lawful c e accepted.0)
      ∙ ap (λ o. cond (r.rule.accepted e.payload) (option_map (λ ws. attribute_reading r e ∷ ws) o) None) (list_canonical (g.next c e) es accepted.1 full.1 fits.1)

  -- ---- lists

  bytes_read_back : (b : List ℕ) (o : Option (List Attribute)) → attributes_of b ≡ o → (list_rule any g).accepted b ≡ true → (list_rule any g).empty_ports b ≡ false → (list_rule any g).fits b ≡ true → reading_as any g ((list_rule any g).canonical b) ≡ reading_as any g b
  unfolding reading_as
  bytes_read_back b None h a m f = absurd (let e : false ≡ true = sym (ap (λ o. option_map_or (λ es. all_accepted g no_kind_in_force es) o false) h) ∙ a in cc)
  bytes_read_back b (Some es) h a m f =
      let accepted : all_accepted g no_kind_in_force es ≡ true = sym (ap (λ o. option_map_or (λ es. all_accepted g no_kind_in_force es) o false) h) ∙ a in
      let full : some_empty_ports g no_kind_in_force es ≡ false = sym (ap (λ o. option_map_or (λ es. some_empty_ports g no_kind_in_force es) o false) h) ∙ m in
      let fit : all_fit g no_kind_in_force es ≡ true = sym (ap (λ o. option_map_or (λ es. all_fit g no_kind_in_force es) o true) h) ∙ f in
      ap (λ o. option_and_then (λ es. attribute_readings g no_kind_in_force es) o) (canonical_is_cut any g b es h)
      ∙ list_canonical no_kind_in_force es accepted full fit
      ∙ sym (ap (λ o. option_and_then (λ es. attribute_readings g no_kind_in_force es) o) h)

pub lists_are_read_back : ListsAreReadBack
lists_are_read_back g lawful b = bytes_read_back g lawful b (attributes_of b) refl
