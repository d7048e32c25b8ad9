-- The steps of the loop over a list of link info.
use Rattle.std.proofs.Common.{◌≡◌, ℕ, ◌<◌, true, false, List, [], ◌∷◌, ◌++◌, length, map, Some, refl, sym, ap, subst, ◌∙◌}
use Rattle.std.proofs.lemmas.List.{map-append}
use Rattle.netlink_packet_core_grammar.specs.Attributes.{Attribute, proper_kind, list_text}
use Rattle.netlink_packet_core_grammar.specs.AttributeViews.{BeginsWithAttribute, viewed_attribute, viewed_kind, viewed_payload, after_first}
use Rattle.netlink_packet_core.specs.Lists.{text_by, all_fit_by}
use Rattle.attribute_tables_grammar.specs.Lists.{Context, no_kind_in_force, any, LawfulGrammar, row_of, canonical_form, context_after}
use Rattle.attribute_tables_grammar.specs.Peers.{RuleOfPeers}
use Rattle.attribute_tables_grammar.specs.Tables.{info_next}
use Rattle.attribute_tables_grammar.specs.Readings.{AttributeReading, reading_as, attribute_reading, ReadingSoFar, AreRowVariants}
use Rattle.attribute_tables_grammar.specs.Laws.{ReadingsUnfold, ReadingsDetermineRules, ContextsUnfold}
use Rattle.attribute_tables.specs.Written.{written_as}
use Rattle.attribute_tables.proofs.Lists.{all_written, entries_written}
use Rattle.link_info_grammar.specs.LinkInfo.{data_rule, port_data_rule, info_grammar, info_rule, link_info_row}
use Rattle.link_info.specs.LinkInfo.{link_info_entry, link_info_fits, link_info_is_row_variant}
use Rattle.link_info.specs.declared.infos.LinkInfo.{LinkInfo}

abbrev pub written : List LinkInfo → List AttributeReading
written vs = map (written_as link_info_entry link_info_fits) vs

module _ (p : RuleOfPeers) where
  -- ---- the names of values, and the context after them

  -- each value is the variant of its row, and this is the context after them
  pub record Named (vs : List LinkInfo) (c : Context) : Type 0 where
    pub named : AreRowVariants (info_grammar p) link_info_entry link_info_is_row_variant no_kind_in_force vs
    pub leaves : context_after (info_grammar p) no_kind_in_force (map link_info_entry vs) ≡ c

  named_more : (c : Context) (vs : List LinkInfo) (v : LinkInfo) → AreRowVariants (info_grammar p) link_info_entry link_info_is_row_variant c vs → link_info_is_row_variant (context_after (info_grammar p) c (map link_info_entry vs)) v →
      AreRowVariants (info_grammar p) link_info_entry link_info_is_row_variant c (vs ++ v ∷ [])
  unfolding context_after
  named_more c [] v h n = (n, record {})
  named_more c (w ∷ vs) v h n = (h.0, named_more ((info_grammar p).next c (link_info_entry w)) vs v h.1 n)

  named_next : ContextsUnfold → LawfulGrammar (info_grammar p) → (vs : List LinkInfo) (c : Context) (e : Attribute) (v : LinkInfo) → (row_of (info_grammar p) c e).rule.accepted e.payload ≡ true → link_info_entry v ≡ canonical_form (row_of (info_grammar p) c e) e →
      link_info_is_row_variant c v → Named vs c → Named (vs ++ v ∷ []) ((info_grammar p).next c e)
  named_next contexts lawful vs c e v a is n s = record {
    named = named_more no_kind_in_force vs v s.named (subst (λ d. link_info_is_row_variant d v) (sym s.leaves) n);
    leaves = ap (context_after (info_grammar p) no_kind_in_force) (map-append link_info_entry vs (v ∷ [])) ∙ contexts.more (info_grammar p) no_kind_in_force (map link_info_entry vs) (link_info_entry v)
        ∙ ap (λ d. (info_grammar p).next d (link_info_entry v)) s.leaves ∙ ap ((info_grammar p).next c) is ∙ contexts.canonical (info_grammar p) lawful c e a;
  }

  -- ---- the loop

  -- the loop's invariant
  pub record State (bytes : List ℕ) (vs : List LinkInfo) (c : Context) (rest : List ℕ) : Type 0 where
    pub so_far : ReadingSoFar any (info_grammar p) bytes (written vs) c rest
    pub named : Named vs c

  -- what was read, once nothing remains
  pub record Done (bytes : List ℕ) (vs : List LinkInfo) : Type 0 where
    pub read : reading_as any (info_grammar p) bytes ≡ Some (written vs)
    pub accepted : (info_rule p).accepted bytes ≡ true
    pub canonical : text_by link_info_entry vs ≡ (info_rule p).canonical bytes
    pub fits : all_fit_by link_info_entry link_info_fits vs ≡ (info_rule p).fits bytes

  module _ (steps : ReadingsUnfold) where
    pub state_start : (bytes : List ℕ) → State bytes [] no_kind_in_force bytes
    unfolding context_after
    state_start bytes = record { so_far = steps.start any (info_grammar p) bytes; named = record { named = record {}; leaves = refl } }

    pub state_more : ContextsUnfold → LawfulGrammar (info_grammar p) → (bytes : List ℕ) (vs : List LinkInfo) (c : Context) (rest : List ℕ) (v : LinkInfo) → BeginsWithAttribute rest →
        (link_info_row p c (proper_kind (viewed_kind rest))).rule.accepted (viewed_payload rest) ≡ true →
        link_info_entry v ≡ canonical_form (link_info_row p c (proper_kind (viewed_kind rest))) (viewed_attribute rest) →
        link_info_fits v ≡ (link_info_row p c (proper_kind (viewed_kind rest))).rule.fits (viewed_payload rest) →
        link_info_is_row_variant c v → State bytes vs c rest → State bytes (vs ++ v ∷ []) (info_next c (proper_kind (viewed_kind rest)) (viewed_payload rest)) (after_first rest)
    unfolding info_grammar data_rule port_data_rule
    state_more contexts lawful bytes vs c rest v h a entry inside n s =
        let e = viewed_attribute rest in
        let w = written_as link_info_entry link_info_fits in
        let is : w v ≡ attribute_reading (row_of (info_grammar p) c e) e = λ i. record { entry = entry i; inside_fits = inside i } in
        record {
          so_far = subst (λ ws. ReadingSoFar any (info_grammar p) bytes ws (info_next c (proper_kind (viewed_kind rest)) (viewed_payload rest)) (after_first rest)) (sym (map-append w vs (v ∷ [])))
              (steps.more any (info_grammar p) bytes (written vs) c rest (w v) h refl a is s.so_far);
          named = named_next contexts lawful vs c e v a entry n s.named;
        }

    pub state_refused : ReadingsDetermineRules → (bytes : List ℕ) (vs : List LinkInfo) (c : Context) (rest : List ℕ) → BeginsWithAttribute rest →
        (link_info_row p c (proper_kind (viewed_kind rest))).rule.accepted (viewed_payload rest) ≡ false → State bytes vs c rest → (info_rule p).accepted bytes ≡ false
    unfolding info_grammar data_rule port_data_rule info_rule
    state_refused determine bytes vs c rest h a s = determine.rejects any (info_grammar p) bytes (determine.of_any _ _ ∙ steps.refused any (info_grammar p) bytes (written vs) c rest h refl a s.so_far)

    pub state_stopped : ReadingsDetermineRules → (bytes : List ℕ) (vs : List LinkInfo) (c : Context) (rest : List ℕ) → (BeginsWithAttribute rest → ⊥) → 0 < length rest → State bytes vs c rest → (info_rule p).accepted bytes ≡ false
    unfolding info_grammar info_rule
    state_stopped determine bytes vs c rest h l s = determine.rejects any (info_grammar p) bytes (determine.of_any _ _ ∙ steps.stopped any (info_grammar p) bytes (written vs) c rest h l s.so_far)

    pub state_done : ReadingsDetermineRules → (bytes : List ℕ) (vs : List LinkInfo) (c : Context) (rest : List ℕ) → length rest ≡ 0 → State bytes vs c rest → Done bytes vs
    unfolding info_grammar info_rule
    state_done determine bytes vs c rest l s =
        let d = determine.of_any _ _ ∙ steps.done any (info_grammar p) bytes (written vs) c rest l s.so_far in
        let t = determine.determines any (info_grammar p) bytes (written vs) d in
        record {
          read = d;
          accepted = t.accepted;
          canonical = sym (t.canonical ∙ ap list_text (entries_written link_info_entry link_info_fits vs));
          fits = sym (all_written link_info_entry link_info_fits vs) ∙ sym t.fits;
        }
