-- The attributes of a link, as they are written, have no quirk at any depth.
use Rattle.std.proofs.Common.{◌≡◌, ℕ, zero, suc, ◌<◌, Bool, true, false, eqb, List, Option, Some, None, refl, sym, ap, subst, ◌∙◌, arith}
use Rattle.std.proofs.lemmas.Bool.{ne_eqb}
use Rattle.netlink_packet_core_grammar.specs.Attributes.{proper_kind}
use Rattle.netlink_packet_core_grammar.specs.Texts.{without_nul}
use Rattle.netlink_packet_core_grammar.proofs.Texts.{without_nul-end}
use Rattle.attribute_tables_grammar.specs.Rules.{Rule}
use Rattle.attribute_tables_grammar.specs.Lists.{Context, no_kind_in_force, Row, Grammar, row_of, canonical_form, without_context, any, non_empty, of_kind_one}
use Rattle.attribute_tables_grammar.specs.LookUps.{table_list_rule, link_info_rule, table_row, rows_rule}
use Rattle.attribute_tables_grammar.specs.Peers.{RuleOfPeers}
use Rattle.attribute_tables_grammar.specs.Tables.{rule_of_name, names_grammar, info_row, info_next}
use Rattle.attribute_tables_grammar.proofs.Attributes.{proper_kind-written}
use Rattle.link_info_grammar.specs.Families.{kinds, port_kinds}
use Rattle.link_tables.proofs.Built.{kinds_built, port_kinds_built}
use Rattle.link_tables.specs.InForce.{data_under, port_data_under, statistics_under, held_in_force}
use Rattle.link_tables.specs.declared.kinds.TheConstants.{KINDS, PORT_KINDS}
use Rattle.link_tables.specs.declared.rows.Held.TheVariants.{Plain}
use Rattle.link_tables.specs.declared.rows.Shape.TheVariants.{Raw}
use Rattle.link_message_grammar.specs.Body.{attribute_row, attributes_rule}
use Rattle.link_message_grammar.specs.LinkMessage.{Family, unspec}
use Rattle.link_message_grammar.specs.NestedTables.{inet, specific, xdp, vf_infos}
use Rattle.link_message_grammar.proofs.Parts.{attributes_are_looked_up}
use Rattle.link_capture_quirks.specs.declared.tables.Table.{Table}
use Rattle.link_capture_quirks.specs.declared.tables.Table.TheVariants.{Unspec, Info, Families, Inet, Programs, Functions}
use Rattle.link_capture_walks.specs.Listings.{whole}
use Rattle.link_capture_quirks.specs.QuirkTables.{Listing, held_list, at_payload_start, inside_link, inside_table, has_peer, next_list}
use Rattle.link_capture_quirks.specs.QuirkLaws.{ListsUnfoldByAttributes, link_list, WrittenAttributesHaveNone}
use Rattle.link_capture_quirks.proofs.Lists.{HasNone, NoneInside, WritesNoQuirks, list-none, rows-none}
use Rattle.link_capture_quirks.proofs.Inside.{at_kind, split, nothing-inside, whole-list, written-inside, HasNoQuirks, no-quirks-direct}
use Rattle.link_capture_quirks.proofs.KindData.{PeerHasNone, in-force-none}

info-no-quirks : HasNoQuirks Info
info-no-quirks = record { bit = λ k. refl; payload = λ k p. refl }

families-no-quirks : HasNoQuirks Families
families-no-quirks = record { bit = λ k. refl; payload = λ k p. refl }

link-peerless : (f : Family) → has_peer (link_list f) ≡ false
link-peerless unspec = refl
link-peerless f = refl

link-stays : (f : Family) (j : Bool) (k : ℕ) (q : List ℕ) → next_list (whole (link_list f) j) k q ≡ whole (link_list f) j
link-stays unspec j k q = refl
link-stays f j k q = refl

module _ (s : ListsUnfoldByAttributes) (w : WrittenAttributesHaveNone) (p : RuleOfPeers) (j : Bool) (peers : PeerHasNone p j) where
  abbrev list_in : Table → Listing
  list_in t = whole t j

  -- ---- link info

  abbrev info_rows : Context → ℕ → Row
  info_rows c k = info_row (rule_of_name p kinds) (rule_of_name p port_kinds) c k

  abbrev info_rules : Grammar
  info_rules = names_grammar (rule_of_name p kinds) (rule_of_name p port_kinds)

  abbrev info_at : Context → Listing
  info_at c = record { table = Info; context = c; judged = j }

  statistics-none : (l : Listing) (o : Option (List ℕ)) (q : List ℕ) → NoneInside (at_payload_start l (held_list (statistics_under o))) q
  statistics-none l None q = λ offset. refl
  statistics-none l (Some n) q = λ offset. refl

  -- a kind above 5 is raw, and leaves the kinds in force
  raw-above : (c : Context) (k : ℕ) → 5 < k → held_in_force c k ≡ Some (Plain Raw)
  raw-above c k h = simp (ne_eqb k 1 (λ e. omega arith), ne_eqb k 4 (λ e. omega arith), ne_eqb k 5 (λ e. omega arith), ne_eqb k 2 (λ e. omega arith), ne_eqb k 3 (λ e. omega arith))

  stays-above : (c : Context) (k : ℕ) (b : List ℕ) → 5 < k → info_next c k b ≡ c
  stays-above c k b h = simp (ne_eqb k 1 (λ e. omega arith), ne_eqb k 4 (λ e. omega arith), ne_eqb k 5 (λ e. omega arith))

  info-inside : (c : Context) (k : ℕ) (b : List ℕ) → (info_rows c k).rule.accepted b ≡ true → NoneInside (at_payload_start (info_at c) (held_list (held_in_force c k))) ((info_rows c k).rule.canonical b)
  unfolding data_under port_data_under
  info-inside c (suc (suc zero)) b a = in-force-none s w p j peers (info_at c) refl KINDS kinds kinds_built c.kind b a
  info-inside c (suc (suc (suc zero))) b a = statistics-none (info_at c) c.kind ((info_rows c 3).rule.canonical b)
  info-inside c (suc (suc (suc (suc (suc zero))))) b a = in-force-none s w p j peers (info_at c) refl PORT_KINDS port_kinds port_kinds_built c.port_kind b a
  info-inside c zero b a = λ offset. refl
  info-inside c (suc zero) b a = λ offset. refl
  info-inside c (suc (suc (suc (suc zero)))) b a = λ offset. refl
  info-inside c (suc (suc (suc (suc (suc (suc k)))))) b a =
      subst (λ h. NoneInside (at_payload_start (info_at c) (held_list h)) ((info_rows c (suc (suc (suc (suc (suc (suc k))))))).rule.canonical b)) (sym (raw-above c (suc (suc (suc (suc (suc (suc k)))))) (omega arith))) (λ offset. refl)

  info-after : (c : Context) (k : ℕ) (b : List ℕ) → info_next c k ((info_rows c k).rule.canonical b) ≡ info_next c k b
  info-after c (suc zero) b = ap (λ n. record { kind = Some n; port_kind = c.port_kind }) (without_nul-end (without_nul b))
  info-after c (suc (suc (suc (suc zero)))) b = ap (λ n. record { kind = c.kind; port_kind = Some n }) (without_nul-end (without_nul b))
  info-after c zero b = refl
  info-after c (suc (suc zero)) b = refl
  info-after c (suc (suc (suc zero))) b = refl
  info-after c (suc (suc (suc (suc (suc zero))))) b = refl
  info-after c (suc (suc (suc (suc (suc (suc k)))))) b = stays-above c (suc (suc (suc (suc (suc (suc k)))))) ((info_rows c (suc (suc (suc (suc (suc (suc k))))))).rule.canonical b) (omega arith) ∙ sym (stays-above c (suc (suc (suc (suc (suc (suc k)))))) b (omega arith))

  info-writes-no-quirks : WritesNoQuirks info_rules non_empty info_at
  info-writes-no-quirks = record {
    direct = λ c e offset k a. no-quirks-direct Info offset (canonical_form (row_of info_rules c e) e) info-no-quirks;
    inner = λ c e a. written-inside (info_at c) (row_of info_rules c e) e refl (info-inside c (proper_kind e.kind) e.payload a);
    following = λ c e.
        let r = row_of info_rules c e in
        ap (λ k. next_list (info_at c) k (r.rule.canonical e.payload)) (proper_kind-written r e.kind) ∙ ap info_at (info-after c (proper_kind e.kind) e.payload);
  }

  info-none : HasNone (list_in Info) (link_info_rule p non_empty kinds port_kinds)
  unfolding link_info_rule
  info-none = list-none s info_rules non_empty info_at info-writes-no-quirks

  inet-none : HasNone (list_in Inet) (table_list_rule p any inet)
  inet-none = rows-none s p any inet (list_in Inet) (record {
    direct = λ c e offset k a. w.settings p offset e;
    inner = λ c e a. let r = table_row p inet (proper_kind e.kind) in written-inside (list_in Inet) r e refl (nothing-inside (list_in Inet) (r.rule.canonical e.payload) None refl);
    following = λ c e. refl;
  })

  programs-none : HasNone (list_in Programs) (table_list_rule p any xdp)
  programs-none = rows-none s p any xdp (list_in Programs) (record {
    direct = λ c e offset k a. w.programs p offset e;
    inner = λ c e a. let r = table_row p xdp (proper_kind e.kind) in written-inside (list_in Programs) r e refl (nothing-inside (list_in Programs) (r.rule.canonical e.payload) None refl);
    following = λ c e. refl;
  })

  functions-none : HasNone (list_in Functions) (table_list_rule p of_kind_one vf_infos)
  functions-none = rows-none s p of_kind_one vf_infos (list_in Functions) (record {
    direct = λ c e offset k a. w.functions p offset e k;
    inner = λ c e a. let r = table_row p vf_infos (proper_kind e.kind) in written-inside (list_in Functions) r e refl (nothing-inside (list_in Functions) (r.rule.canonical e.payload) None refl);
    following = λ c e. refl;
  })

  families-inside : (k : ℕ) (b : List ℕ) → (table_row p specific k).rule.accepted b ≡ true → NoneInside (at_payload_start (list_in Families) (inside_table Families no_kind_in_force k)) ((table_row p specific k).rule.canonical b)
  families-inside k b a =
      let l = list_in Families in
      split (λ o. NoneInside (at_payload_start l o) ((table_row p specific k).rule.canonical b)) (eqb k 2) (Some Inet) None
      (λ e. at_kind (λ n. (table_row p specific n).rule.accepted b ≡ true → NoneInside (at_payload_start l (Some Inet)) ((table_row p specific n).rule.canonical b)) k 2 e
      (λ a. whole-list Inet j (table_list_rule p any inet) b inet-none a l refl) a)
      (nothing-inside l ((table_row p specific k).rule.canonical b) None refl)

  families-none : HasNone (list_in Families) (table_list_rule p any specific)
  families-none = rows-none s p any specific (list_in Families) (record {
    direct = λ c e offset k a. no-quirks-direct Families offset (canonical_form (table_row p specific (proper_kind e.kind)) e) families-no-quirks;
    inner = λ c e a. written-inside (list_in Families) (table_row p specific (proper_kind e.kind)) e refl (families-inside (proper_kind e.kind) e.payload a);
    following = λ c e. refl;
  })

  -- ---- links

  -- if the row of the kind n is a list without quirks, and k is n
  at_list : (f : Family) (l : Listing) (t : Table) (r : Rule) (k n : ℕ) (b : List ℕ) → l.judged ≡ j → (attribute_row p f n).rule ≡ r → HasNone (list_in t) r → (attribute_row p f k).rule.accepted b ≡ true → eqb k n ≡ true →
      NoneInside (at_payload_start l (Some t)) ((attribute_row p f k).rule.canonical b)
  at_list f l t r k n b i is h a e =
      at_kind (λ m. (attribute_row p f m).rule.accepted b ≡ true → NoneInside (at_payload_start l (Some t)) ((attribute_row p f m).rule.canonical b)) k n e
      (subst (λ (x : Rule). x.accepted b ≡ true → NoneInside (at_payload_start l (Some t)) (x.canonical b)) (sym is) (λ a. whole-list t j r b h a l i)) a

  each-inside : (f : Family) (l : Listing) (k : ℕ) (b : List ℕ) → l.judged ≡ j → (attribute_row p f k).rule.accepted b ≡ true → NoneInside (at_payload_start l (inside_link k)) ((attribute_row p f k).rule.canonical b)
  each-inside f l k b i a =
      let q = (attribute_row p f k).rule.canonical b in
      let pick = split (λ o. NoneInside (at_payload_start l o) q) in
      pick (eqb k 18) (Some Info) _ (at_list f l Info (link_info_rule p non_empty kinds port_kinds) k 18 b i refl info-none a)
      (pick (eqb k 22) (Some Functions) _ (at_list f l Functions (table_list_rule p of_kind_one vf_infos) k 22 b i refl functions-none a)
      (pick (eqb k 43) (Some Programs) None (at_list f l Programs (table_list_rule p any xdp) k 43 b i refl programs-none a)
      (nothing-inside l q None refl)))

  link-inside : (f : Family) (k : ℕ) (b : List ℕ) → (attribute_row p f k).rule.accepted b ≡ true → NoneInside (at_payload_start (list_in (link_list f)) (inside_table (link_list f) no_kind_in_force k)) ((attribute_row p f k).rule.canonical b)
  link-inside unspec k b a =
      let l = list_in Unspec in
      split (λ o. NoneInside (at_payload_start l o) ((attribute_row p unspec k).rule.canonical b)) (eqb k 26) (Some Families) (inside_link k) (at_list unspec l Families (table_list_rule p any specific) k 26 b refl refl families-none a) (each-inside unspec l k b refl a)
  link-inside f k b a = each-inside f (list_in (link_list f)) k b refl a

  link-writes-no-quirks : (f : Family) → WritesNoQuirks (without_context (attribute_row p f)) any (λ c. list_in (link_list f))
  link-writes-no-quirks f = record {
    direct = λ c e offset k a. w.link p f offset e a;
    inner = λ c e a. written-inside (list_in (link_list f)) (attribute_row p f (proper_kind e.kind)) e (link-peerless f) (link-inside f (proper_kind e.kind) e.payload a);
    following = λ c e. link-stays f j _ _;
  }

  -- the attributes of each family
  pub attributes-none : (f : Family) → HasNone (list_in (link_list f)) (attributes_rule p f)
  unfolding rows_rule
  attributes-none f = subst (HasNone (list_in (link_list f))) (sym (attributes_are_looked_up p f)) (list-none s (without_context (attribute_row p f)) any (λ c. list_in (link_list f)) (link-writes-no-quirks f))
