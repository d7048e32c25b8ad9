-- The data of each kind of link, as they are written, have no quirk.
use Rattle.std.proofs.Common.{◌≡◌, ℕ, ◌+◌, Bool, true, false, cond, eqb, leb, List, [], ◌∷◌, ◌++◌, length, Option, Some, None, refl, sym, ap, subst, ◌∙◌}
use Rattle.std.specs.Prelude.{◌&&◌, ◌||◌, slice_index, option_map}
use Rattle.std.proofs.lemmas.Bool.{false≢true, and_parts}
use Rattle.std.specs.Option.{option_map_or}
use Rattle.netlink_packet_core_grammar.specs.Attributes.{Attribute, proper_kind, nla_align, attribute_length, attribute_text, list_text, first_attribute}
use Rattle.netlink_packet_core_grammar.proofs.Attributes.{first_attribute_text}
use Rattle.attribute_tables_grammar.specs.Shapes.{exact}
use Rattle.attribute_tables_grammar.specs.Rules.{Rule}
use Rattle.attribute_tables_grammar.specs.Lists.{no_kind_in_force, Row, Grammar, row_of, all_accepted, canonical_form, canonical_forms, without_context, ListForm, first_only, kept}
use Rattle.attribute_tables_grammar.specs.LookUps.{table_list_rule, table_row, rows_rule, payload_at, rule_or_raw}
use Rattle.attribute_tables_grammar.specs.Peers.{RuleOfPeers}
use Rattle.attribute_tables_grammar.specs.Tables.{Table as Rows, Names, rule_of_name, row_in_force}
use Rattle.attribute_tables_grammar.proofs.Attributes.{proper_kind-written}
use Rattle.attribute_tables_grammar.proofs.LookUps.{list-rows, named-payload}
use Rattle.link_tables.proofs.NameRows.{found_name}
use Rattle.link_tables.specs.declared.rows.Form.TheVariants.{FirstOnly}
use Rattle.link_tables.specs.declared.rows.Held.{Held}
use Rattle.link_tables.specs.declared.rows.Held.TheVariants.{List as HeldList}
use Rattle.link_tables.specs.declared.kinds.TheConstants.{VXLAN, GENEVE, GRE, GRE6, IP4_TUNNEL, IP6_TUNNEL, BAREUDP, BATADV, NETKIT, VETH, VXCAN}
use Rattle.link_tables.specs.Names.{held_by_name, names_of}
use Rattle.link_tables.specs.declared.names.NameRow.{NameRow}
use Rattle.link_tables.specs.InForce.{held_under}
use Rattle.link_tables.specs.Rows.{form_of}
use Rattle.link_tables.specs.Tables.{held_rule, info_payload, table_of}
use Rattle.link_info_grammar.specs.Families.{vxlan, geneve, gre, gre6, ip_tunnel, bareudp, batadv, netkit, pair}
use Rattle.link_capture_quirks.specs.declared.tables.Data.{Data}
use Rattle.link_capture_quirks.specs.declared.tables.Data.TheVariants.{Other, Vxlan, Geneve, Gre, Gre6, IpTunnel, BareUdp, Batadv, Netkit, Pair}
use Rattle.link_capture_quirks.specs.declared.tables.Table.TheVariants.{OfKind}
use Rattle.link_capture_walks.specs.Listings.{whole}
use Rattle.link_capture_quirks.specs.QuirkTables.{Listing, data_of, data_in, data_list, held_list, at_payload_start, family_table, inside, next_data, has_peer}
use Rattle.link_capture_walks.specs.Walks.{collected_inside}
use Rattle.link_capture_quirks.specs.QuirkLists.{inside_of, rest_after, list_quirks}
use Rattle.link_capture_quirks.specs.QuirkLaws.{ListsUnfoldByAttributes, IsDataTable, WrittenAttributesHaveNone}
use Rattle.link_capture_quirks.proofs.Lists.{HasNone, NoneInside, rows-none}
use Rattle.link_capture_quirks.proofs.Inside.{at_kind, either, split, nothing-inside, without-peer, whole-list, written-inside, HasNoQuirks, no-quirks-direct, none-at-all}

-- the list inside a peer's payload, if peers are judged
abbrev pub in_peer : Bool → List ℕ → Option (Listing × ℕ)
in_peer j q = cond (j && (leb 16 (length q) && true)) (Some (whole (family_table (slice_index q 0)) false, 16)) None

-- a peer, as it is written, has no quirk
abbrev pub PeerHasNone : RuleOfPeers → Bool → Type 0
PeerHasNone p j = (b : List ℕ) → p.accepted b ≡ true → NoneInside (in_peer j (p.canonical b)) (p.canonical b)

abbrev pub of_kind : Bool → Data → Listing
of_kind j d = whole (OfKind d) j

-- data that have no quirk
other-no-quirks : HasNoQuirks (OfKind Other)
other-no-quirks = record { bit = λ k. refl; payload = λ k p. refl }

module _ (s : ListsUnfoldByAttributes) (w : WrittenAttributesHaveNone) (p : RuleOfPeers) (j : Bool) (peers : PeerHasNone p j) where
  -- ---- data without a peer

  plain-none : (f : ListForm) (d : Data) (t : Rows) → IsDataTable d t → has_peer (OfKind d) ≡ false → next_data d ≡ d → HasNone (of_kind j d) (table_list_rule p f t)
  plain-none f d t i h n = rows-none s p f t (of_kind j d) (record {
    direct = λ c e offset k a. w.of_kind p d t offset e i;
    inner = λ c e a.
        let r = table_row p t (proper_kind e.kind) in
        written-inside (of_kind j d) r e h (nothing-inside (of_kind j d) (r.rule.canonical e.payload) None refl);
    following = λ c e. ap (of_kind j) n;
  })

  -- ---- data with a peer

  abbrev IsPeers : Data → Row → ℕ → Type 0
  IsPeers d r k = (b : List ℕ) → r.rule.accepted b ≡ true → NoneInside (inside (of_kind j d) k (r.rule.canonical b)) (r.rule.canonical b)

  peer-kind : (d : Data) (t : Rows) → IsPeers d (table_row p t 1) 1 → (k : ℕ) → IsPeers d (table_row p t k) k
  unfolding inside
  peer-kind d t h k = go (eqb k 1) refl
    where
      go : (b : Bool) → eqb k 1 ≡ b → IsPeers d (table_row p t k) k
      go true e = at_kind (λ n. IsPeers d (table_row p t n) n) k 1 e h
      go false e = λ b a.
          let q = (table_row p t k).rule.canonical b in
          let peer : Option (Listing × ℕ) = Some (whole (family_table (slice_index q 0)) false, 16) in
          subst (λ o. NoneInside o q) (sym (ap (λ x. cond (x && (j && (leb 16 (length q) && has_peer (OfKind d)))) peer None) e)) (λ offset. refl)

  written-peer : (d : Data) (t : Rows) → IsPeers d (table_row p t 1) 1 → (e : Attribute) → (table_row p t (proper_kind e.kind)).rule.accepted e.payload ≡ true →
      NoneInside (inside_of (of_kind j d) (canonical_form (table_row p t (proper_kind e.kind)) e)) ((table_row p t (proper_kind e.kind)).rule.canonical e.payload)
  written-peer d t h e a =
      let r = table_row p t (proper_kind e.kind) in
      let q = r.rule.canonical e.payload in
      subst (λ k. NoneInside (inside (of_kind j d) k q) q) (sym (proper_kind-written r e.kind)) (peer-kind d t h (proper_kind e.kind) e.payload a)

  netkit-peers : IsPeers Netkit (table_row p netkit 1) 1
  unfolding inside
  netkit-peers b a = peers b a

  pair-peers : IsPeers Pair (table_row p pair 1) 1
  unfolding inside
  pair-peers b a = peers b a

  netkit-none : (f : ListForm) → HasNone (of_kind j Netkit) (table_list_rule p f netkit)
  netkit-none f = rows-none s p f netkit (of_kind j Netkit) (record {
    direct = λ c e offset k a. w.of_kind p Netkit netkit offset e refl;
    inner = λ c e a. written-peer Netkit netkit netkit-peers e a;
    following = λ c e. refl;
  })

  -- ---- a pair, whose list has one attribute

  abbrev pair-rows : Grammar
  pair-rows = without_context (table_row p pair)

  first-only-none : (offset : ℕ) (e : Attribute) → (row_of pair-rows no_kind_in_force e).rule.accepted e.payload ≡ true → list_quirks (of_kind j Pair) offset (list_text (canonical_form (row_of pair-rows no_kind_in_force e) e ∷ [])) ≡ []
  unfolding list_text first_attribute
  first-only-none offset e a =
      let l = of_kind j Pair in
      let r = row_of pair-rows no_kind_in_force e in
      let x = canonical_form r e in
      let following = offset + nla_align (attribute_length x) in
      s.next l offset (attribute_text x ++ []) x [] (first_attribute_text x [])
      ∙ ap (λ z. z ++ (collected_inside list_quirks (offset + 4) (inside_of l x) x.payload ++ list_quirks (rest_after l x) following [])) (no-quirks-direct l.table offset x (record { bit = λ k. refl; payload = λ k q. refl }))
      ∙ ap (λ z. z ++ list_quirks (rest_after l x) following []) (written-peer Pair pair pair-peers e a (offset + 4))
      ∙ s.none (rest_after l x) following [] refl

  pair-by : (offset : ℕ) (o : Option (Attribute × List ℕ)) →
      option_map_or (λ es. all_accepted pair-rows no_kind_in_force (kept first_only es)) (option_map (λ (x : Attribute × List ℕ). x.0 ∷ []) o) false ≡ true →
      list_quirks (of_kind j Pair) offset (option_map_or (λ es. list_text (canonical_forms pair-rows no_kind_in_force (kept first_only es))) (option_map (λ (x : Attribute × List ℕ). x.0 ∷ []) o) []) ≡ []
  unfolding canonical_forms all_accepted
  pair-by offset None h = absurd (false≢true h)
  pair-by offset (Some x) h = first-only-none offset x.0 (and_parts ((row_of pair-rows no_kind_in_force x.0).rule.accepted x.0.payload) true h).0

  pair-none : HasNone (of_kind j Pair) (table_list_rule p first_only pair)
  unfolding rows_rule
  pair-none = subst (HasNone (of_kind j Pair)) (sym (list-rows p first_only pair)) (λ offset b a. pair-by offset (first_attribute b) a)

  -- ---- data by the name of their kind

  pub other-none : (r : Rule) → HasNone (of_kind j Other) r
  other-none r offset b a = none-at-all (of_kind j Other) other-no-quirks (λ e. without-peer (of_kind j Other) (proper_kind e.kind) e.payload refl) (λ e. refl) offset (r.canonical b)

  -- the rows of the table t are those of the index n
  at_index : (f : ListForm) (d : Data) (t n : ℕ) → HasNone (of_kind j d) (table_list_rule p f (table_of n)) → eqb t n ≡ true → HasNone (of_kind j d) (table_list_rule p f (table_of t))
  at_index f d t n h e = at_kind (λ m. HasNone (of_kind j d) (table_list_rule p f (table_of m))) t n e h

  -- the data with the rows of a table, whatever the form of their list
  table-none : (f : ListForm) (t : ℕ) → HasNone (of_kind j (data_of t)) (table_list_rule p f (table_of t))
  unfolding table_of
  table-none f t =
      let choose = split (λ d. HasNone (of_kind j d) (table_list_rule p f (table_of t))) in
      choose (eqb t VXLAN.0) Vxlan _ (at_index f Vxlan t VXLAN.0 (plain-none f Vxlan vxlan refl refl refl))
      (choose (eqb t GENEVE.0) Geneve _ (at_index f Geneve t GENEVE.0 (plain-none f Geneve geneve refl refl refl))
      (choose (eqb t GRE.0) Gre _ (at_index f Gre t GRE.0 (plain-none f Gre gre refl refl refl))
      (choose (eqb t GRE6.0) Gre6 _ (at_index f Gre6 t GRE6.0 (plain-none f Gre6 gre6 refl refl refl))
      (choose (eqb t IP4_TUNNEL.0 || eqb t IP6_TUNNEL.0) IpTunnel _ (λ e. either _ _ e
      (at_index f IpTunnel t IP4_TUNNEL.0 (plain-none f IpTunnel (ip_tunnel (exact 2)) (exact 2, refl) refl refl))
      (at_index f IpTunnel t IP6_TUNNEL.0 (plain-none f IpTunnel (ip_tunnel (exact 4)) (exact 4, refl) refl refl)))
      (choose (eqb t BAREUDP.0) BareUdp _ (at_index f BareUdp t BAREUDP.0 (plain-none f BareUdp bareudp refl refl refl))
      (choose (eqb t BATADV.0) Batadv _ (at_index f Batadv t BATADV.0 (plain-none f Batadv batadv refl refl refl))
      (choose (eqb t NETKIT.0) Netkit Other (at_index f Netkit t NETKIT.0 (netkit-none f)) (other-none (table_list_rule p f (table_of t))))))))))

  pairs-none : (t : ℕ) → HasNone (of_kind j (cond (eqb t VETH.0 || eqb t VXCAN.0) Pair Other)) (table_list_rule p first_only (table_of t))
  unfolding table_of
  pairs-none t =
      split (λ d. HasNone (of_kind j d) (table_list_rule p first_only (table_of t))) (eqb t VETH.0 || eqb t VXCAN.0) Pair Other
      (λ e. either _ _ e (at_index first_only Pair t VETH.0 pair-none) (at_index first_only Pair t VXCAN.0 pair-none))
      (other-none (table_list_rule p first_only (table_of t)))

  -- the data with a payload of the shared tables
  held-none : (h : Held) → HasNone (of_kind j (data_in h)) (held_rule p h)
  held-none (HeldList FirstOnly t) = pairs-none t.0
  held-none (HeldList form t) = table-none (form_of form) t.0
  held-none h = other-none (held_rule p h)

  -- the data of a name, by the rows of names
  named-none : (rows : List NameRow) (names : Names) → names_of table_of info_payload rows ≡ names → (n : List ℕ) → HasNone (of_kind j (data_in (held_by_name rows n))) (rule_of_name p names n)
  named-none rows names built n =
      let held = held_by_name rows n in
      let same : held_rule p held ≡ rule_of_name p names n =
      found_name p table_of info_payload rows n ∙ ap (λ ns. rule_or_raw p (payload_at ns n)) built ∙ sym (named-payload p names n) in
      subst (HasNone (of_kind j (data_in held))) same (held-none held)

  held-inside : (l : Listing) → l.judged ≡ j → (h : Held) (r : Rule) (b : List ℕ) → HasNone (of_kind j (data_in h)) r → r.accepted b ≡ true → NoneInside (at_payload_start l (data_list h)) (r.canonical b)
  held-inside l e (HeldList form t) r b h a = whole-list (OfKind (data_in (HeldList form t))) j r b h a l e
  held-inside l e held r b h a = λ offset. refl

  -- the data of the name in force
  pub in-force-none : (l : Listing) → l.judged ≡ j → (rows : List NameRow) (names : Names) → names_of table_of info_payload rows ≡ names → (o : Option (List ℕ)) (b : List ℕ) → (row_in_force o (rule_of_name p names)).rule.accepted b ≡ true →
      NoneInside (at_payload_start l (held_list (held_under rows o))) ((row_in_force o (rule_of_name p names)).rule.canonical b)
  in-force-none l e rows names built None b a = λ offset. refl
  in-force-none l e rows names built (Some n) b a = held-inside l e (held_by_name rows n) (rule_of_name p names n) b (named-none rows names built n) a
