-- The steps of the loop over a list of which the attributes of kind 1 are kept.
use Rattle.std.proofs.Common.{◌≡◌, ℕ, ◌<◌, Bool, true, false, cond, List, [], ◌∷◌, ◌++◌, length, map, Some, sym, ap, subst, ◌∙◌}
use Rattle.std.proofs.lemmas.List.{map-append}
use Rattle.netlink_packet_core_grammar.specs.Attributes.{Attribute, list_text}
use Rattle.netlink_packet_core_grammar.specs.AttributeViews.{BeginsWithAttribute, viewed_attribute, viewed_payload, after_first}
use Rattle.netlink_packet_core.specs.Lists.{text_by, all_fit_by}
use Rattle.attribute_tables_grammar.specs.Lists.{no_kind_in_force, Row, raw_row, of_kind_one, is_of_kind_one, row_of, canonical_form, without_context}
use Rattle.attribute_tables_grammar.specs.LookUps.{rows_rule, only_kind_one}
use Rattle.attribute_tables_grammar.specs.Readings.{attribute_reading, reading_as, ReadingSoFar}
use Rattle.attribute_tables_grammar.specs.Laws.{ReadingsUnfold, ReadingsDetermineRules}
use Rattle.attribute_tables.specs.Written.{written_as}
use Rattle.attribute_tables.proofs.Lists.{all_written, entries_written}

is_row : (r : Row) (e : Attribute) → is_of_kind_one e ≡ true → r ≡ row_of (without_context (only_kind_one r)) no_kind_in_force e
is_row r e one = sym (ap (λ b. cond b r raw_row) one)

-- the loop's invariant
pub record Entries {V : Type 0} (r : Row) (entry : V → Attribute) (inside : V → Bool) (bytes : List ℕ) (vs : List V) (rest : List ℕ) : Type 0 where
  pub so_far : ReadingSoFar of_kind_one (without_context (only_kind_one r)) bytes (map (written_as entry inside) vs) no_kind_in_force rest

-- what was read, once nothing remains
pub record EntriesDone {V : Type 0} (r : Row) (entry : V → Attribute) (inside : V → Bool) (bytes : List ℕ) (vs : List V) : Type 0 where
  pub read : reading_as of_kind_one (without_context (only_kind_one r)) bytes ≡ Some (map (written_as entry inside) vs)
  pub accepted : (rows_rule of_kind_one (only_kind_one r)).accepted bytes ≡ true
  pub canonical : text_by entry vs ≡ (rows_rule of_kind_one (only_kind_one r)).canonical bytes
  pub fits : all_fit_by entry inside vs ≡ (rows_rule of_kind_one (only_kind_one r)).fits bytes

module _ (steps : ReadingsUnfold) {V : Type 0} (r : Row) (entry : V → Attribute) (inside : V → Bool) (bytes : List ℕ) where
  pub entries_start : Entries r entry inside bytes [] bytes
  entries_start = record { so_far = steps.start of_kind_one (without_context (only_kind_one r)) bytes }

  pub entries_more : (vs : List V) (rest : List ℕ) (v : V) → BeginsWithAttribute rest → is_of_kind_one (viewed_attribute rest) ≡ true →
      r.rule.accepted (viewed_payload rest) ≡ true → entry v ≡ canonical_form r (viewed_attribute rest) → inside v ≡ r.rule.fits (viewed_payload rest) →
      Entries r entry inside bytes vs rest → Entries r entry inside bytes (vs ++ v ∷ []) (after_first rest)
  entries_more vs rest v h one a is fits s =
      let g = without_context (only_kind_one r) in
      let e = viewed_attribute rest in
      let w = written_as entry inside in
      let row = is_row r e one in
      let wrote : w v ≡ attribute_reading r e = λ i. record { entry = is i; inside_fits = fits i } in
      record {
        so_far = subst (λ ws. ReadingSoFar of_kind_one g bytes ws no_kind_in_force (after_first rest)) (sym (map-append w vs (v ∷ [])))
            (steps.more of_kind_one g bytes (map w vs) no_kind_in_force rest (w v) h one
            (ap (λ (x : Row). x.rule.accepted e.payload) (sym row) ∙ a) (wrote ∙ ap (λ x. attribute_reading x e) row) s.so_far);
      }

  pub entries_past : (vs : List V) (rest : List ℕ) → BeginsWithAttribute rest → is_of_kind_one (viewed_attribute rest) ≡ false → Entries r entry inside bytes vs rest → Entries r entry inside bytes vs (after_first rest)
  entries_past vs rest h other s = record { so_far = steps.past of_kind_one (without_context (only_kind_one r)) bytes (map (written_as entry inside) vs) no_kind_in_force rest h other s.so_far }

  -- the results of the rule, once the loop ends
  module _ (determine : ReadingsDetermineRules) where
    pub entries_refused : (vs : List V) (rest : List ℕ) → BeginsWithAttribute rest → is_of_kind_one (viewed_attribute rest) ≡ true → r.rule.accepted (viewed_payload rest) ≡ false → Entries r entry inside bytes vs rest → (rows_rule of_kind_one (only_kind_one r)).accepted bytes ≡ false
    entries_refused vs rest h one a s =
        let g = without_context (only_kind_one r) in
        let e = viewed_attribute rest in
        determine.rejects_rows of_kind_one (only_kind_one r) bytes (determine.of_entries g bytes
        ∙ steps.refused of_kind_one g bytes (map (written_as entry inside) vs) no_kind_in_force rest h one (ap (λ (x : Row). x.rule.accepted e.payload) (sym (is_row r e one)) ∙ a) s.so_far)

    pub entries_stopped : (vs : List V) (rest : List ℕ) → (BeginsWithAttribute rest → ⊥) → 0 < length rest → Entries r entry inside bytes vs rest → (rows_rule of_kind_one (only_kind_one r)).accepted bytes ≡ false
    entries_stopped vs rest h l s =
        let g = without_context (only_kind_one r) in
        determine.rejects_rows of_kind_one (only_kind_one r) bytes (determine.of_entries g bytes ∙ steps.stopped of_kind_one g bytes (map (written_as entry inside) vs) no_kind_in_force rest h l s.so_far)

    pub entries_done : (vs : List V) (rest : List ℕ) → length rest ≡ 0 → Entries r entry inside bytes vs rest → EntriesDone r entry inside bytes vs
    entries_done vs rest l s =
        let g = without_context (only_kind_one r) in
        let ws = map (written_as entry inside) vs in
        let d : reading_as of_kind_one g bytes ≡ Some ws = determine.of_entries g bytes ∙ steps.done of_kind_one g bytes ws no_kind_in_force rest l s.so_far in
        let t = determine.determines_rows of_kind_one (only_kind_one r) bytes ws d in
        record {
          read = d;
          accepted = t.accepted;
          canonical = sym (t.canonical ∙ ap list_text (entries_written entry inside vs));
          fits = sym (all_written entry inside vs) ∙ sym t.fits;
        }
