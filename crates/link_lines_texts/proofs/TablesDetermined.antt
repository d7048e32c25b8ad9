-- Lines determine the lists of all tables in which each row has a name.
use Rattle.std.proofs.Common.{◌≡◌, ℕ, zero, suc, ◌≤◌, Bool, true, false, cond, List, [], ◌∷◌, ◌++◌, Option, Some, None, refl, sym, ap, subst, ◌∙◌, append-nil, arith}
use Rattle.std.specs.Prelude.{◌==◌, ◌&&◌, ◌||◌, not, nat_le, take, bytes_eq, codes, ⊤}
use Rattle.std.proofs.lemmas.Bool.{and_parts, cond_both, eqb-true, leb-true, not-true, true≢false}
use Rattle.std.proofs.lemmas.Slice.Eq.{bytes_eq-Decides}
use Rattle.netlink_packet_core_grammar.specs.Attributes.{proper_kind}
use Rattle.link_tables.specs.declared.names.NameRow.{NameRow}
use Rattle.link_tables.specs.declared.rows.Held.{Held}
use Rattle.link_tables.specs.declared.rows.Held.TheVariants.{List as HeldList, Plain}
use Rattle.link_tables.specs.declared.rows.Shape.TheVariants.{Raw}
use Rattle.link_tables.specs.Names.{held_by_name}
use Rattle.attribute_tables_grammar.specs.Rules.{Rule, shape_rule}
use Rattle.attribute_tables_grammar.specs.Shapes.{Shape, never, raw, text}
use Rattle.attribute_tables_grammar.specs.Lists.{Context, ListForm, Row, without_context}
use Rattle.attribute_tables_grammar.specs.Peers.{RuleOfPeers, peer_rule}
use Rattle.attribute_tables_grammar.specs.Tables.{Payload, Table, Names, info_next, info_row, lacks_name, rule_of_name, names_grammar, row_in, row_in_force, rule}
use Rattle.link_lines_values.specs.declared.values.ShownBy.TheVariants as V
use Rattle.link_lines_values.specs.Values.{Shown}
use Rattle.link_lines_values.specs.Layouts.{layout_fields}
use Rattle.link_lines_values.specs.NumberTexts.{number_texts}
use Rattle.link_lines_raw.specs.Coverage.{determines_raw}
use Rattle.link_lines_raw.specs.Rows.{Raw as Kept}
use Rattle.link_lines_raw.proofs.RawDetermined.{held_payloads_determined}
use Rattle.link_lines_texts.specs.declared.format.Scope.{Scope}
use Rattle.link_lines_texts.specs.Format.{Inside, Inside.Value, Inside.Settings, Inside.Plain as PlainInside, Inside.Held as HeldInside, Inside.Peer as PeerInside, Inside.Nested, can_statistics, inside_held, known_inside, of_held, peer_inside, statistics_inside}
use Rattle.link_tables.specs.declared.kinds.TheConstants.{KINDS, PORT_KINDS}
use Rattle.link_tables.specs.declared.table.Table.{Table as Named}
use Rattle.link_tables.specs.declared.table.TheConstants.{LINK_INFO}
use Rattle.link_tables.specs.InForce.{data_under, held_under, port_data_under}
use Rattle.link_tables.specs.Tables.{is_link_info}
use Rattle.link_lines_raw.specs.Lines.{lines_text}
use Rattle.link_lines_raw.specs.Lists.{held_lines}
use Rattle.link_lines_raw.specs.Names.{all_named_rows}
use Rattle.link_lines_texts.specs.declared.attributes.ListTable.{ListTable}
use Rattle.link_lines_texts.specs.Coverage.{format, has_row, holds_shown, is_in, is_info_kind, kind_inside, kinds_listed, names_shown, rows_shown, shape_determines}
use Rattle.link_lines_texts.proofs.ShapesDetermined.{shapes_determined}
use Rattle.link_lines_texts.specs.AttributeNames.{Name, info_attribute_names, link_names, family_names, attribute_name_of, attribute_names_of}
use Rattle.link_lines_texts.proofs.ListsDetermined.{InsideDetermined, NestedDetermined, RowsDetermined, lists_determined, words_determined}
use Rattle.link_lines_texts.proofs.AttributeNamesDetermined.{found, names_determined}
use Rattle.link_lines_texts.proofs.RowsComputed.{info_is_named}

-- ---- payloads of shapes

pub plain_determined : (bound : ℕ) (scope : Scope) (s : Shape) (v : Shown) → shape_determines s v ≡ true → InsideDetermined bound scope (shape_rule s) (λ p. Value v)
plain_determined bound scope s v h level p q x y short o u sx sy same under = (shapes_determined s v p q h o u same, under)

bytes_determined : (bound : ℕ) (scope : Scope) → InsideDetermined bound scope (shape_rule raw) (λ p. Value V.Bytes)
bytes_determined bound scope = plain_determined bound scope raw V.Bytes refl

never_determined : (bound : ℕ) (scope : Scope) (i : Inside) → InsideDetermined bound scope (shape_rule never) (λ p. i)
never_determined bound scope i level p q x y short o u sx sy same under = absurd (let no : false ≡ true = o.accepted in absurd cc)

nested_determined : (bound : ℕ) (scope : Scope) (r : Rule) (n : Named) → NestedDetermined bound r (record { table = n; scope = scope }) → InsideDetermined bound scope r (λ p. Nested n)
nested_determined bound scope r n determined level p q x y short o u sx sy same under = determined level p q x y short o u sx sy under

-- What raw attributes hold is determined by bytes alone.
no_list : (lines x : List ℕ) → (lines ++ []) ++ x ≡ lines ++ x
no_list lines x = ap (λ z. z ++ x) (append-nil lines)

held_determined : (bound : ℕ) (scope : Scope) (r : Rule) (kept : Kept) → determines_raw kept ≡ true → InsideDetermined bound scope r (λ p. HeldInside kept)
held_determined bound scope r kept h level p q x y short o u sx sy same under =
    held_payloads_determined.determined level kept p q x y h o.bytes u.bytes sx sy same
    (sym (no_list (lines_text (held_lines level kept p)) x) ∙ under ∙ no_list (lines_text (held_lines level kept q)) y)

-- What follows a name that doesn't depend on the kinds in force.
abbrev pub settled : Scope → Inside → List ℕ → Inside
settled scope PeerInside p = peer_inside scope.is_in_peer p
settled scope (Settings v) p = cond scope.is_request PlainInside (Value v)
settled scope i p = i

settings_determined : (bound : ℕ) (scope : Scope) (s : Shape) (v : Shown) → shape_determines s v ≡ true → InsideDetermined bound scope (shape_rule s) (settled scope (Settings v))
settings_determined bound scope s v h = cond_both scope.is_request PlainInside (Value v) (λ i. InsideDetermined bound scope (shape_rule s) (λ p. i)) (λ e. words_determined bound scope (shape_rule s)) (λ e. plain_determined bound scope s v h)

-- ---- rows

-- A name in a table is that of a row.
row_is_there : (m k : ℕ) (table : Table) (t : Name) → all_named_rows (is_in table) (attribute_names_of m) ≡ true → attribute_name_of m k ≡ Some t → has_row table k ≡ true
row_is_there m k table t a e = found (is_in table) m k t a e

-- What a row determines under a name that doesn't depend on the kinds in force.
known_independent : (scope : Scope) (s : Payload) (c : Context) (i : Inside) → holds_shown s (Some i) ≡ true → (p : List ℕ) → known_inside scope c i p ≡ settled scope i p
known_independent scope s c (Value v) h p = refl
known_independent scope s c (Settings v) h p = refl
known_independent scope s c (HeldInside kept) h p = refl
known_independent scope s c (Nested n) h p = refl
known_independent scope s c PeerInside h p = refl
known_independent scope (Payload.plain s) c i h p = absurd cc
known_independent scope Payload.peer c i h p = absurd cc
known_independent scope (Payload.list form t) c i h p = absurd cc
known_independent scope (Payload.link_info form d ports) c i h p = absurd cc

known_is_settled : (scope : Scope) (s : Payload) (c : Context) (i : Inside) → holds_shown s (Some i) ≡ true → ◌≡◌ {A = List ℕ → Inside} (λ p. known_inside scope c i p) (settled scope i)
known_is_settled scope s c i h = λ k p. known_independent scope s c i h p k

module _ (bound : ℕ) (peer : RuleOfPeers) (scope : Scope) where
  -- A row that is looked up is determined under its name.
  abbrev RowDetermined : Table → ℕ → Name → Type 0
  RowDetermined table k t = ((row_in peer table k).is_typed ≡ true) × ((c : Context) → InsideDetermined bound scope (row_in peer table k).rule (λ p. known_inside scope c t.1 p))

  first_row : (m k l : ℕ) (nested : Bool) (s : Payload) (table : Table) (t : Name) → (k == l) ≡ true → (i : holds_shown s (format (attribute_name_of m l)) ≡ true) → (holds_shown s (Some t.1) ≡ true → InsideDetermined bound scope (rule peer s) (settled scope t.1)) →
      attribute_name_of m k ≡ Some t → (c : Context) → InsideDetermined bound scope (rule peer s) (λ p. known_inside scope c t.1 p)
  first_row m k l nested s table t h i determined e c =
      let held : holds_shown s (Some t.1) ≡ true = ap (λ z. holds_shown s (format z)) (sym e) ∙ ap (λ z. holds_shown s (format (attribute_name_of m z))) (eqb-true k l h) ∙ i in
      subst (InsideDetermined bound scope (rule peer s)) (sym (known_is_settled scope s c t.1 held)) (determined held)

  abbrev chosen : Bool → Bool → Payload → Row → Row
  chosen b nested s other = elim b [ true ↦ record { is_typed = true; is_nested = nested; rule = rule peer s } | false ↦ other ]

  row_by : (m k l : ℕ) (nested : Bool) (s : Payload) (table : Table) (t : Name) (b : Bool) → (k == l) ≡ b → holds_shown s (format (attribute_name_of m l)) ≡ true → (holds_shown s (Some t.1) ≡ true → InsideDetermined bound scope (rule peer s) (settled scope t.1)) →
      (has_row table k ≡ true → RowDetermined table k t) → attribute_name_of m k ≡ Some t → (b || has_row table k) ≡ true →
      ((chosen b nested s (row_in peer table k)).is_typed ≡ true) × ((c : Context) → InsideDetermined bound scope (chosen b nested s (row_in peer table k)).rule (λ p. known_inside scope c t.1 p))
  row_by m k l nested s table t true h i determined more e r = (refl, first_row m k l nested s table t h i determined e)
  row_by m k l nested s table t false h i determined more e r = more r

  -- ---- names of kinds

  -- The data under a name.
  abbrev NameDetermined : Names → List NameRow → List ℕ → Type 0
  NameDetermined ns kinds n = InsideDetermined bound scope (rule_of_name peer ns n) (λ p. kind_inside kinds n)

  name_by : (n m : List ℕ) (s : Payload) (ns : Names) (kinds : List NameRow) (b : Bool) → bytes_eq n m ≡ b → InsideDetermined bound scope (rule peer s) (λ p. kind_inside kinds m) → (lacks_name n ns ≡ false → NameDetermined ns kinds n) →
      (not b && lacks_name n ns) ≡ false → InsideDetermined bound scope (elim b [ true ↦ rule peer s | false ↦ rule_of_name peer ns n ]) (λ p. kind_inside kinds n)
  name_by n m s ns kinds true h determined more l = subst (λ z. InsideDetermined bound scope (rule peer s) (λ p. kind_inside kinds z)) (sym ((bytes_eq-Decides n m).0 h)) determined
  name_by n m s ns kinds false h determined more l = more l

  other_by : (n m : List ℕ) (s : Payload) (ns : Names) (b : Bool) → (lacks_name n ns ≡ true → rule_of_name peer ns n ≡ shape_rule raw) → (not b && lacks_name n ns) ≡ true → (elim b [ true ↦ rule peer s | false ↦ rule_of_name peer ns n ]) ≡ shape_rule raw
  other_by n m s ns true more l = absurd cc
  other_by n m s ns false more l = more l

  -- A name without a payload holds bytes.
  other_name : (ns : Names) (n : List ℕ) → lacks_name n ns ≡ true → rule_of_name peer ns n ≡ shape_rule raw
  other_name Names.others n l = refl
  other_name (Names.name m s ns) n l = other_by n m s ns (bytes_eq n m) (other_name ns n) l

unlisted_by : (n : List ℕ) (r : NameRow) (kinds : List NameRow) (ns : Names) (b : Bool) → bytes_eq n (take r.0 r.1) ≡ b → not (lacks_name (take r.0 r.1) ns) ≡ true → lacks_name n ns ≡ true → held_by_name kinds n ≡ Plain Raw →
    cond b r.2 (held_by_name kinds n) ≡ Plain Raw
unlisted_by n r kinds ns true h k l more = absurd (true≢false (sym l ∙ ap (λ z. lacks_name z ns) ((bytes_eq-Decides n (take r.0 r.1)).0 h) ∙ not-true (lacks_name (take r.0 r.1) ns) k))
unlisted_by n r kinds ns false h k l more = more

-- The row of such a name is determined too.
unlisted : (kinds : List NameRow) (ns : Names) (n : List ℕ) → kinds_listed kinds ns ≡ true → lacks_name n ns ≡ true → held_by_name kinds n ≡ Plain Raw
unlisted [] ns n h l = refl
unlisted (r ∷ kinds) ns n h l =
    let parts = and_parts (not (lacks_name (take r.0 r.1) ns)) (kinds_listed kinds ns) h in
    unlisted_by n r kinds ns (bytes_eq n (take r.0 r.1)) refl parts.0 l (unlisted kinds ns n parts.1 l)

-- A name that the list of kinds lacks.
unlisted_inside : (kinds : List NameRow) (ns : Names) (n : List ℕ) → kinds_listed kinds ns ≡ true → lacks_name n ns ≡ true → kind_inside kinds n ≡ Value V.Bytes
unlisted_inside kinds ns n h l = ap of_held (unlisted kinds ns n h l)

any_name_by : (bound : ℕ) (peer : RuleOfPeers) (scope : Scope) (kinds : List NameRow) (ns : Names) (n : List ℕ) (b : Bool) → lacks_name n ns ≡ b → kinds_listed kinds ns ≡ true → (lacks_name n ns ≡ false → NameDetermined bound peer scope ns kinds n) → NameDetermined bound peer scope ns kinds n
any_name_by bound peer scope kinds ns n false l h determined = determined l
any_name_by bound peer scope kinds ns n true l h determined =
    subst (λ r. InsideDetermined bound scope r (λ p. kind_inside kinds n)) (sym (other_name bound peer scope ns n l)) (subst (λ i. InsideDetermined bound scope (shape_rule raw) (λ p. i)) (sym (unlisted_inside kinds ns n h l)) (bytes_determined bound scope))

-- ---- link info

-- A known name, as it is shown under the kinds in force.
abbrev pub KnownDetermined : ℕ → Scope → Rule → Context → Option Inside → Type 0
KnownDetermined bound scope r c None = ⊤
KnownDetermined bound scope r c (Some i) = InsideDetermined bound scope r (λ p. known_inside scope c i p)

info_kind : (k : ℕ) (t : Name) → attribute_name_of LINK_INFO.0 k ≡ Some t → (1 ≤ k) × (k ≤ 5)
info_kind k t e =
    let parts = and_parts (nat_le 1 k) (nat_le k 5) (found is_info_kind LINK_INFO.0 k t info_is_named e) in
    (leb-true 1 k parts.0, leb-true k 5 parts.1)

force_typed : (o : Option (List ℕ)) (f : List ℕ → Rule) → (row_in_force o f).is_typed ≡ true
force_typed None f = refl
force_typed (Some n) f = refl

can_determined : determines_raw can_statistics ≡ true
unfolding can_statistics layout_fields number_texts
can_determined = refl

force_statistics : (bound : ℕ) (scope : Scope) (o : Option (List ℕ)) → InsideDetermined bound scope (row_in_force o (λ n. shape_rule raw)).rule (λ p. statistics_inside o)
force_statistics bound scope None = never_determined bound scope (Value V.Bytes)
force_statistics bound scope (Some n) =
    cond_both (bytes_eq n (codes "can")) (HeldInside can_statistics) (Value V.Bytes) (λ i. InsideDetermined bound scope (shape_rule raw) (λ p. i)) (λ e. held_determined bound scope (shape_rule raw) can_statistics can_determined) (λ e. bytes_determined bound scope)

module _ (bound : ℕ) (peer : RuleOfPeers) (scope : Scope) where
  -- The data of all names are determined.
  abbrev AllNamesDetermined : Names → List NameRow → Type 0
  AllNamesDetermined ns kinds = (n : List ℕ) → NameDetermined bound peer scope ns kinds n

  force_determined : (ns : Names) (kinds : List NameRow) (o : Option (List ℕ)) → AllNamesDetermined ns kinds → InsideDetermined bound scope (row_in_force o (rule_of_name peer ns)).rule (λ p. inside_held (held_under kinds o))
  force_determined ns kinds None determined = never_determined bound scope (Value V.Bytes)
  force_determined ns kinds (Some n) determined = determined n

  module _ (data' ports : Names) (data_determined : AllNamesDetermined data' KINDS) (ports_determined : AllNamesDetermined ports PORT_KINDS) where
    abbrev info : Context → ℕ → Row
    info c k = info_row (rule_of_name peer data') (rule_of_name peer ports) c k

    info_determined : (c : Context) (k : ℕ) → 1 ≤ k → k ≤ 5 → ((info c k).is_typed ≡ true) × KnownDetermined bound scope (info c k).rule c (format (attribute_name_of LINK_INFO.0 k))
    unfolding attribute_name_of attribute_names_of link_names family_names info_attribute_names data_under port_data_under
    info_determined c zero h l = absurd (omega arith)
    info_determined c (suc zero) h l = (refl, plain_determined bound scope text V.Text refl)
    info_determined c (suc (suc zero)) h l = (force_typed c.kind (rule_of_name peer data'), force_determined data' KINDS c.kind data_determined)
    info_determined c (suc (suc (suc zero))) h l = (force_typed c.kind (λ n. shape_rule raw), force_statistics bound scope c.kind)
    info_determined c (suc (suc (suc (suc zero)))) h l = (refl, plain_determined bound scope text V.Text refl)
    info_determined c (suc (suc (suc (suc (suc zero))))) h l = (force_typed c.port_kind (rule_of_name peer ports), force_determined ports PORT_KINDS c.port_kind ports_determined)
    info_determined c (suc (suc (suc (suc (suc (suc k)))))) h l = absurd (omega arith)

    info_rows : RowsDetermined bound (names_grammar (rule_of_name peer data') (rule_of_name peer ports)) (record { table = LINK_INFO; scope = scope })
    info_rows = record {
      named_attributes = λ c k t l e.
          let b = info_kind k t e in
          let r = info_determined c k b.0 b.1 in
          (r.0, subst (KnownDetermined bound scope (info c k).rule c) (ap format e) r.1);
      next = λ c e. refl;
    }

-- ---- tables

module _ (bound : ℕ) (peer : RuleOfPeers) (scope : Scope) (peers : InsideDetermined bound scope (peer_rule peer) (settled scope PeerInside)) where
  abbrev list_table : Named → ListTable
  list_table n = record { table = n; scope = scope }

  table_rows : (m : Named) (table : Table) → is_link_info m ≡ false → all_named_rows (is_in table) (attribute_names_of m.0) ≡ true → ((k : ℕ) (t : Name) → attribute_name_of m.0 k ≡ Some t → has_row table k ≡ true → RowDetermined bound peer scope table k t) → RowsDetermined bound (without_context (row_in peer table)) (list_table m)
  table_rows m table five a rows = record {
    named_attributes = λ c k t l e. let r = rows k t e (row_is_there m.0 k table t a e) in (r.0, r.1 c);
    next = λ c e. sym (ap (λ b. cond b (info_next c (proper_kind e.kind) e.payload) c) five);
  }

  list_determined : (form : ListForm) (table : Table) (n : Named) → (not (is_link_info n) && (all_named_rows (is_in table) (attribute_names_of n.0) && rows_shown n.0 table)) ≡ true →
      (rows_shown n.0 table ≡ true → (k : ℕ) (t : Name) → attribute_name_of n.0 k ≡ Some t → has_row table k ≡ true → RowDetermined bound peer scope table k t) → InsideDetermined bound scope (rule peer (Payload.list form table)) (λ p. Nested n)
  list_determined form table n h rows =
      let parts = and_parts (not (is_link_info n)) (all_named_rows (is_in table) (attribute_names_of n.0) && rows_shown n.0 table) h in
      let more = and_parts (all_named_rows (is_in table) (attribute_names_of n.0)) (rows_shown n.0 table) parts.1 in
      nested_determined bound scope (rule peer (Payload.list form table)) n
      (lists_determined bound form (without_context (row_in peer table)) (list_table n) (names_determined n) (table_rows n table (not-true (is_link_info n) parts.0) more.0 (rows more.1)))

  info_is : (n : Named) → is_link_info n ≡ true → n ≡ LINK_INFO
  info_is n h = ap (λ k. record { 0 = k }) (eqb-true n.0 LINK_INFO.0 h)

  info_list_determined : (form : ListForm) (data' ports : Names) (n : Named) → (is_link_info n && ((names_shown data' KINDS && kinds_listed KINDS data') && (names_shown ports PORT_KINDS && kinds_listed PORT_KINDS ports))) ≡ true →
      (names_shown data' KINDS ≡ true → (m : List ℕ) → lacks_name m data' ≡ false → NameDetermined bound peer scope data' KINDS m) → (names_shown ports PORT_KINDS ≡ true → (m : List ℕ) → lacks_name m ports ≡ false → NameDetermined bound peer scope ports PORT_KINDS m) →
      InsideDetermined bound scope (rule peer (Payload.link_info form data' ports)) (λ p. Nested n)
  info_list_determined form data' ports n h data_determined ports_determined =
      let parts = and_parts (is_link_info n) _ h in
      let both = and_parts (names_shown data' KINDS && kinds_listed KINDS data') (names_shown ports PORT_KINDS && kinds_listed PORT_KINDS ports) parts.1 in
      let first = and_parts (names_shown data' KINDS) (kinds_listed KINDS data') both.0 in
      let second = and_parts (names_shown ports PORT_KINDS) (kinds_listed PORT_KINDS ports) both.1 in
      let data_all : AllNamesDetermined bound peer scope data' KINDS = λ m. any_name_by bound peer scope KINDS data' m (lacks_name m data') refl first.1 (data_determined first.0 m) in
      let ports_all : AllNamesDetermined bound peer scope ports PORT_KINDS = λ m. any_name_by bound peer scope PORT_KINDS ports m (lacks_name m ports) refl second.1 (ports_determined second.0 m) in
      let determined = lists_determined bound form (names_grammar (rule_of_name peer data') (rule_of_name peer ports)) (list_table LINK_INFO) (names_determined LINK_INFO) (info_rows bound peer scope data' ports data_all ports_all) in
      subst (λ k. InsideDetermined bound scope (rule peer (Payload.link_info form data' ports)) (λ p. Nested k)) (sym (info_is n parts.0)) (nested_determined bound scope (rule peer (Payload.link_info form data' ports)) LINK_INFO determined)

  -- Data under a name are no peer.
  held_independent : (h : Held) → ◌≡◌ {A = List ℕ → Inside} (settled scope (of_held h)) (λ p. of_held h)
  held_independent (HeldList form table) = refl
  held_independent h = refl

  mutual
    pub payload_determined : (s : Payload) (i : Inside) → holds_shown s (Some i) ≡ true → InsideDetermined bound scope (rule peer s) (settled scope i)
    payload_determined (Payload.plain s) (Value v) h = plain_determined bound scope s v h
    payload_determined (Payload.plain s) (Settings v) h = settings_determined bound scope s v h
    payload_determined (Payload.plain s) (HeldInside kept) h = held_determined bound scope (shape_rule s) kept h
    payload_determined Payload.peer PeerInside h = peers
    payload_determined (Payload.list form table) (Nested n) h = list_determined form table n h (rows_determined n.0 table)
    payload_determined (Payload.link_info form data' ports) (Nested n) h = info_list_determined form data' ports n h (data_names_determined data' KINDS) (data_names_determined ports PORT_KINDS)
    payload_determined s i h = absurd cc

    rows_determined : (m : ℕ) (table : Table) → rows_shown m table ≡ true → (k : ℕ) (t : Name) → attribute_name_of m k ≡ Some t → has_row table k ≡ true → RowDetermined bound peer scope table k t
    rows_determined m Table.end h k t e r = absurd cc
    rows_determined m (Table.row l nested s table) h k t e r =
        let parts = and_parts (holds_shown s (format (attribute_name_of m l))) (rows_shown m table) h in
        row_by bound peer scope m k l nested s table t (k == l) refl parts.0 (payload_determined s t.1) (rows_determined m table parts.1 k t e) e r

    data_names_determined : (ns : Names) (kinds : List NameRow) → names_shown ns kinds ≡ true → (n : List ℕ) → lacks_name n ns ≡ false → NameDetermined bound peer scope ns kinds n
    data_names_determined Names.others kinds h n l = absurd cc
    data_names_determined (Names.name m s ns) kinds h n l =
        let parts = and_parts (holds_shown s (Some (kind_inside kinds m))) (names_shown ns kinds) h in
        name_by bound peer scope n m s ns kinds (bytes_eq n m) refl (subst (InsideDetermined bound scope (rule peer s)) (held_independent (held_by_name kinds m)) (payload_determined s (kind_inside kinds m) parts.0)) (data_names_determined ns kinds parts.1 n) l
