-- The attributes as which a list is written determine whether it has a list of ports of which no entry is kept.
use Rattle.std.proofs.Common.{◌≡◌, ℕ, ◌+◌, Bool, true, false, cond, List, [], ◌∷◌, length, Option, Some, None, refl, sym, ap, ap₂, subst, ◌∙◌, arith}
use Rattle.std.specs.Prelude.{◌==◌, ◌&&◌, ◌||◌, bytes_eq}
use Rattle.std.specs.List.{list_any}
use Rattle.std.proofs.lemmas.Bool.{cond_both, and_left, and_parts, or_from, eqb-true, eqb-false, ne_eqb}
use Rattle.std.proofs.lemmas.Option.{none-some}
use Rattle.std.specs.Option.{option_and_then, option_map_or}
use Rattle.netlink_packet_core_grammar.specs.Attributes.{Attribute, proper_kind, attribute_text, list_text, attributes_of}
use Rattle.netlink_packet_core_grammar.proofs.Attributes.{option_map-got}
use Rattle.attribute_tables_grammar.specs.Rules.{Rule}
use Rattle.attribute_tables_grammar.specs.Lists.{Context, no_kind_in_force, Grammar, row_of, canonical_kind, canonical_form, canonical_forms, all_accepted, some_empty_ports, ListForm, any, ports, read_as, kept, is_empty_ports, list_rule, without_context}
use Rattle.attribute_tables_grammar.specs.LookUps.{Line, table_list_rule, link_info_rule, payload_rule, line_at, row_of_line, rows_rule}
use Rattle.attribute_tables_grammar.specs.Peers.{RuleOfPeers}
use Rattle.attribute_tables_grammar.specs.Readings.{AttributeReading, attribute_readings, reading_as}
use Rattle.attribute_tables_grammar.specs.Tables.{Payload, Payload.plain, Payload.peer, Payload.list, Payload.link_info, Table, Table.end, Table.row, Names, Names.others, Names.name, names_grammar, rule, row_in, rule_of_name, grammar}
use Rattle.attribute_tables_grammar.proofs.Tables.{pick_row, pick_rule, info_rows}
use Rattle.link_message_grammar.specs.Body.{attribute_row, is_emptied}
use Rattle.link_message_grammar.specs.Laws.{EmptyPortsAreDetermined}
use Rattle.link_message_grammar.specs.LinkMessage.{Family, unspec, bridge, inet_6, other, protocol_line, before_protinfo, after_protinfo, link_line}
use Rattle.link_message_grammar.specs.NestedTables.{resized, vf_ports}
use Rattle.link_message_grammar.proofs.Parts.{attributes_are_looked_up}

abbrev is_other : ListForm → Bool
is_other ports = false
is_other _ = true

-- ---- the test: no payload holds a list of ports

abbrev mutual
  without_ports : Payload → Bool
  without_ports (plain s) = true
  without_ports peer = true
  without_ports (list form t) = is_other form && rows_without_ports t
  without_ports (link_info form data' port_data) = is_other form && (names_without_ports data' && names_without_ports port_data)

  rows_without_ports : Table → Bool
  rows_without_ports end = true
  rows_without_ports (row k n s t) = without_ports s && rows_without_ports t

  names_without_ports : Names → Bool
  names_without_ports others = true
  names_without_ports (name m s ns) = without_ports s && names_without_ports ns

-- No other list of ports than that of IFLA_VF_PORTS.
abbrev other_rows_without_ports : Table → Bool
other_rows_without_ports end = true
other_rows_without_ports (row k n s t) = (k == 24 || without_ports s) && other_rows_without_ports t

-- ---- lists

abbrev NeverEmpty : Rule → Type 0
NeverEmpty r = (b : List ℕ) → r.empty_ports b ≡ false

form_full : (form : ListForm) → is_other form ≡ true → (es : List Attribute) → is_empty_ports form es ≡ false
form_full ports h es = absurd cc
form_full form h es = refl

some_full : (g : Grammar) → ((c : Context) (k : ℕ) → NeverEmpty (g.row c k).rule) → (c : Context) (es : List Attribute) → some_empty_ports g c es ≡ false
unfolding some_empty_ports
some_full g rows c [] = refl
some_full g rows c (e ∷ es) = or_from _ _ (rows c (proper_kind e.kind) e.payload) (some_full g rows (g.next c e) es)

at_read : (f : List Attribute → Bool) → ((es : List Attribute) → f es ≡ false) → (o : Option (List Attribute)) → option_map_or f o false ≡ false
at_read f h None = refl
at_read f h (Some es) = h es

list_full : (form : ListForm) (g : Grammar) → is_other form ≡ true → ((c : Context) (k : ℕ) → NeverEmpty (g.row c k).rule) → NeverEmpty (list_rule form g)
list_full form g h rows b = at_read _ (λ es. or_from _ _ (form_full form h (kept form es)) (some_full g rows no_kind_in_force (kept form es))) (read_as form b)

-- ---- the lines of links except that of IFLA_VF_PORTS

abbrev line_without_ports : Option Line → Bool
line_without_ports None = true
line_without_ports (Some l) = without_ports l.payload

-- A test whose first part is known to fail has to hold by the second.
second : (a b : Bool) → a ≡ false → (a || b) ≡ true → b ≡ true
second true b h m = absurd cc
second false b h m = m

at_kind : (k l : ℕ) (n : Bool) (s : Payload) (o : Option Line) (b : Bool) → (k == l) ≡ b → (k == 24) ≡ false → (l == 24 || without_ports s) ≡ true → line_without_ports o ≡ true →
    line_without_ports (cond b (Some (record { is_nested = n; payload = s })) o) ≡ true
at_kind k l n s o true e d m h = second (l == 24) (without_ports s) (subst (λ x. (x == 24) ≡ false) (eqb-true k l e) d) m
at_kind k l n s o false e d m h = h

lines_full : (t : Table) (k : ℕ) → other_rows_without_ports t ≡ true → (k == 24) ≡ false → line_without_ports (line_at t k) ≡ true
lines_full end k m d = refl
lines_full (row l n s t) k m d =
    let h = and_parts (l == 24 || without_ports s) (other_rows_without_ports t) m in
    at_kind k l n s (line_at t k) (k == l) refl d h.0 (lines_full t k h.1 d)

protocol_full : (f : Family) → line_without_ports (protocol_line f) ≡ true
protocol_full unspec = refl
protocol_full bridge = refl
protocol_full inet_6 = refl
protocol_full other = refl

table_full : (f : Family) → other_rows_without_ports (before_protinfo (after_protinfo f)) ≡ true
unfolding resized
table_full unspec = refl
table_full bridge = refl
table_full inet_6 = refl
table_full other = refl

at_twelve : (f : Family) (o : Option Line) (b : Bool) → line_without_ports o ≡ true → line_without_ports (cond b (protocol_line f) o) ≡ true
at_twelve f o true h = protocol_full f
at_twelve f o false h = h

-- ---- attributes as they are written

not_none : (e : Attribute) (es : List Attribute) → (length (list_text (e ∷ es)) == 0) ≡ false
unfolding list_text attribute_text
not_none e es = ne_eqb _ 0 (λ h. cc)

kind_kept : (t n : Bool) (k : ℕ) → (proper_kind k == 24) ≡ false → (cond t (proper_kind k + cond n 0x8000 0) k == 24) ≡ false
kind_kept true true k d = ne_eqb (proper_kind k + 0x8000) 24 (λ h. absurd (omega (arith, h)))
kind_kept true false k d = ne_eqb (proper_kind k + 0) 24 (λ h. eqb-false (proper_kind k) 24 d (omega (arith, h)))
kind_kept false n k d = ne_eqb k 24 (λ h. eqb-false (proper_kind k) 24 d (ap proper_kind h))

-- ---- payloads without ports

module _ (p : RuleOfPeers) where
  mutual
    full : (s : Payload) → without_ports s ≡ true → NeverEmpty (rule p s)
    full (plain s) m b = refl
    full peer m b = refl
    full (list form t) m b =
        let h = and_parts (is_other form) (rows_without_ports t) m in
        list_full form (grammar p t) h.0 (λ c k. rows_full t h.1 k) b
    full (link_info form data' port_data) m b =
        let h = and_parts (is_other form) (names_without_ports data' && names_without_ports port_data) m in
        let i = and_parts (names_without_ports data') (names_without_ports port_data) h.1 in
        list_full form (names_grammar (rule_of_name p data') (rule_of_name p port_data)) h.0 (info_rows NeverEmpty (λ s m x. refl) (rule_of_name p data') (rule_of_name p port_data) (names_full data' i.0) (names_full port_data i.1)) b

    rows_full : (t : Table) → rows_without_ports t ≡ true → (k : ℕ) → NeverEmpty (row_in p t k).rule
    rows_full end m k = λ b. refl
    rows_full (row l n s t) m k =
        let h = and_parts (without_ports s) (rows_without_ports t) m in
        pick_row NeverEmpty (k == l) (record { is_typed = true; is_nested = n; rule = rule p s }) (row_in p t k) (full s h.0) (rows_full t h.1 k)

    names_full : (ns : Names) → names_without_ports ns ≡ true → (n : List ℕ) → NeverEmpty (rule_of_name p ns n)
    names_full others m n = λ b. refl
    names_full (name l s ns) m n =
        let h = and_parts (without_ports s) (names_without_ports ns) m in
        pick_rule NeverEmpty (bytes_eq n l) (rule p s) (rule_of_name p ns n) (full s h.0) (names_full ns h.1 n)

  -- ---- the rows of links except IFLA_VF_PORTS

  payload_full : (s : Payload) → without_ports s ≡ true → NeverEmpty (payload_rule p s)
  unfolding table_list_rule link_info_rule
  payload_full (plain s) m b = refl
  payload_full peer m b = refl
  payload_full (list form t) m b = full (list form t) m b
  payload_full (link_info form data' port_data) m b = full (link_info form data' port_data) m b

  line_full : (o : Option Line) → line_without_ports o ≡ true → NeverEmpty (row_of_line p o).rule
  line_full None m b = refl
  line_full (Some l) m b = payload_full l.payload m b

  other_full : (f : Family) (k : ℕ) → (k == 24) ≡ false → NeverEmpty (attribute_row p f k).rule
  other_full f k d = line_full (link_line f k) (at_twelve f (line_at (before_protinfo (after_protinfo f)) k) (k == 12) (lines_full (before_protinfo (after_protinfo f)) k (table_full f) d))

  -- ---- the row of IFLA_VF_PORTS

  abbrev inside : Grammar
  inside = grammar p vf_ports

  ports_inside : (c : Context) (k : ℕ) → NeverEmpty (inside.row c k).rule
  ports_inside c k = rows_full vf_ports refl k

  kept_determined : (ks : List Attribute) → (is_empty_ports ports ks || some_empty_ports inside no_kind_in_force ks) ≡ (length (list_text (canonical_forms inside no_kind_in_force ks)) == 0)
  unfolding canonical_forms list_text
  kept_determined [] = refl
  kept_determined (k ∷ ks) = some_full inside ports_inside no_kind_in_force (k ∷ ks) ∙ sym (not_none (canonical_form (row_of inside no_kind_in_force k) k) (canonical_forms inside (inside.next no_kind_in_force k) ks))

  at_ports : (o : Option (List Attribute)) → option_map_or (λ es. all_accepted inside no_kind_in_force (kept ports es)) o false ≡ true →
      option_map_or (λ es. is_empty_ports ports (kept ports es) || some_empty_ports inside no_kind_in_force (kept ports es)) o false
      ≡ (length (option_map_or (λ es. list_text (canonical_forms inside no_kind_in_force (kept ports es))) o []) == 0)
  at_ports None h = absurd cc
  at_ports (Some es) h = kept_determined (kept ports es)

  ports_determined : (b : List ℕ) → (table_list_rule p ports vf_ports).accepted b ≡ true → (table_list_rule p ports vf_ports).empty_ports b ≡ (length ((table_list_rule p ports vf_ports).canonical b) == 0)
  unfolding table_list_rule
  ports_determined b h = at_ports (read_as ports b) h

  -- ---- an attribute

  at_ports_row : (f : Family) (k : ℕ) (e : Attribute) → proper_kind e.kind ≡ k → k ≡ 24 → (attribute_row p f k).rule.accepted e.payload ≡ true →
      (attribute_row p f k).rule.empty_ports e.payload ≡ is_emptied (canonical_form (attribute_row p f k) e)
  at_ports_row f k e kind q a =
      let h : (attribute_row p f 24).rule.accepted e.payload ≡ true = subst (λ x. (attribute_row p f x).rule.accepted e.payload ≡ true) q a in
      let w : (proper_kind e.kind + 0 == 24) ≡ true = ap (λ x. x + 0 == 24) (kind ∙ q) in
      subst (λ x. (attribute_row p f x).rule.empty_ports e.payload ≡ is_emptied (canonical_form (attribute_row p f x) e)) (sym q)
      (ports_determined e.payload h ∙ sym (ap (λ t. t && (length ((table_list_rule p ports vf_ports).canonical e.payload) == 0)) w))

  by_row : (f : Family) (k : ℕ) (e : Attribute) → proper_kind e.kind ≡ k → (b : Bool) → (k == 24) ≡ b → (attribute_row p f k).rule.accepted e.payload ≡ true →
      (attribute_row p f k).rule.empty_ports e.payload ≡ is_emptied (canonical_form (attribute_row p f k) e)
  by_row f k e kind false d a =
      other_full f k d e.payload
      ∙ sym (and_left (canonical_kind (attribute_row p f k) e.kind == 24) (length ((attribute_row p f k).rule.canonical e.payload) == 0) (kind_kept (attribute_row p f k).is_typed (attribute_row p f k).is_nested e.kind (ap (λ x. x == 24) kind ∙ d)))
  by_row f k e kind true d a = at_ports_row f k e kind (eqb-true k 24 d) a

  -- ---- a list of attributes

  abbrev rows : Family → Grammar
  rows f = without_context (attribute_row p f)

  list_determined : (f : Family) (c : Context) (es : List Attribute) (ws : List AttributeReading) → attribute_readings (rows f) c es ≡ Some ws → some_empty_ports (rows f) c es ≡ list_any (λ w. is_emptied w.entry) ws
  unfolding attribute_readings some_empty_ports
  list_determined f c [] ws h = let e : [] ≡ ws = cc in ap (list_any (λ w. is_emptied w.entry)) e
  list_determined f c (e ∷ es) ws h =
      cond_both ((row_of (rows f) c e).rule.accepted e.payload) _ None (λ o. o ≡ Some ws → some_empty_ports (rows f) c (e ∷ es) ≡ list_any (λ w. is_emptied w.entry) ws)
      (λ a m.
      let k = option_map-got _ (attribute_readings (rows f) c es) ws m in
      ap₂ (λ x y. x || y) (by_row f (proper_kind e.kind) e refl (proper_kind e.kind == 24) refl a) (list_determined f c es k.0 k.1)
      ∙ ap (list_any (λ w. is_emptied w.entry)) k.2)
      (λ a m. absurd (none-some ws m)) h

  -- ---- the attributes of a body

  at_bytes : (f : Family) (o : Option (List Attribute)) (ws : List AttributeReading) → option_and_then (λ es. attribute_readings (rows f) no_kind_in_force (kept any es)) o ≡ Some ws →
      option_map_or (λ es. is_empty_ports any (kept any es) || some_empty_ports (rows f) no_kind_in_force (kept any es)) o false ≡ list_any (λ w. is_emptied w.entry) ws
  at_bytes f None ws h = absurd (none-some ws h)
  at_bytes f (Some es) ws h = list_determined f no_kind_in_force es ws h

  pub empty_ports_are_determined : EmptyPortsAreDetermined p
  unfolding rows_rule reading_as
  empty_ports_are_determined f b ws h = ap (λ r. r.empty_ports b) (attributes_are_looked_up p f) ∙ at_bytes f (attributes_of b) ws h
