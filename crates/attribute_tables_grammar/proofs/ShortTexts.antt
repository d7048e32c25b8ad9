-- A canonical payload of at most 65535 bytes fits: no attribute inside is longer than the whole.
use Rattle.std.proofs.Common.{◌≡◌, ℕ, ◌+◌, ◌≤◌, true, List, [], ◌∷◌, length, refl, ap, ◌∙◌, arith}
use Rattle.std.specs.Prelude.{bytes_eq, ◌==◌}
use Rattle.std.proofs.lemmas.Bool.{and_parts, and_from, le-leb}
use Rattle.std.specs.Option.{option_map_or}
use Rattle.netlink_packet_core_grammar.specs.Attributes.{Attribute, proper_kind, list_size}
use Rattle.netlink_packet_core_grammar.proofs.Sizes.{length-list_text}
use Rattle.attribute_tables_grammar.specs.Lists.{Context, no_kind_in_force, Grammar, row_of, all_accepted, canonical_forms, all_fit, ListForm, kept, list_rule}
use Rattle.attribute_tables_grammar.specs.Peers.{RuleOfPeers}
use Rattle.attribute_tables_grammar.specs.Tables.{Payload, Payload.plain, Payload.peer, Payload.list, Payload.link_info, Table, Table.end, Table.row, Names, Names.others, Names.name, names_grammar, rule, row_in, rule_of_name, grammar}
use Rattle.attribute_tables_grammar.specs.Laws.{ShortFit}
use Rattle.attribute_tables_grammar.proofs.Lists.{accepted_list}
use Rattle.attribute_tables_grammar.proofs.Tables.{pick_row, pick_rule, info_rows}

module _ (g : Grammar) (rows : (c : Context) (k : ℕ) → ShortFit (g.row c k).rule) where
  all_fit-short : (c : Context) (es : List Attribute) → all_accepted g c es ≡ true → list_size (canonical_forms g c es) ≤ 65535 → all_fit g c es ≡ true
  unfolding all_accepted canonical_forms all_fit
  all_fit-short c [] a l = refl
  all_fit-short c (e ∷ es) a l =
      let b = and_parts _ _ a in
      let inside : 4 + length ((row_of g c e).rule.canonical e.payload) ≤ 65535 = omega (arith, l) in
      and_from _ _ (and_from _ _ (le-leb _ _ inside) (rows c (proper_kind e.kind) e.payload b.0 (omega (arith, l)))) (all_fit-short (g.next c e) es b.1 (omega (arith, l)))

  list_fits : (form : ListForm) → ShortFit (list_rule form g)
  list_fits form b a l =
      let k = accepted_list form g b a in
      let size = ap length k.canonical ∙ length-list_text (canonical_forms g no_kind_in_force (kept form k.es)) in
      ap (λ o. option_map_or (λ es. all_fit g no_kind_in_force (kept form es)) o true) k.reads ∙ all_fit-short no_kind_in_force (kept form k.es) k.accepted (omega (arith, l, size))

module _ (p : RuleOfPeers) where
  mutual
    pub short_fits : (s : Payload) → ShortFit (rule p s)
    short_fits (plain s) b a l = refl
    short_fits peer b a l = refl
    short_fits (list form t) b a l = list_fits (grammar p t) (λ c k. rows_fit t k) form b a l
    short_fits (link_info form data' ports) b a l =
        list_fits (names_grammar (rule_of_name p data') (rule_of_name p ports)) (info_rows ShortFit (λ s m b a l. refl) (rule_of_name p data') (rule_of_name p ports) (names_fit data') (names_fit ports)) form b a l

    rows_fit : (t : Table) (k : ℕ) → ShortFit (row_in p t k).rule
    rows_fit end k = λ b a l. refl
    rows_fit (row l n s t) k = pick_row ShortFit (k == l) (record { is_typed = true; is_nested = n; rule = rule p s }) (row_in p t k) (short_fits s) (rows_fit t k)

    names_fit : (ns : Names) (n : List ℕ) → ShortFit (rule_of_name p ns n)
    names_fit others n = λ b a l. refl
    names_fit (name l s ns) n = pick_rule ShortFit (bytes_eq n l) (rule p s) (rule_of_name p ns n) (short_fits s) (names_fit ns n)
