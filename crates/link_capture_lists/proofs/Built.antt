-- The rows with names are those of the grammar's tables.
use Rattle.std.proofs.Common.{◌≡◌, ℕ, zero, suc, Bool, true, false, cond, List, [], ◌∷◌, get_or, map, Option, Some, None, refl, sym, ap, ◌∙◌, ◌<◌, arith}
use Rattle.std.proofs.Math.ListN.{get_or-map}
use Rattle.std.proofs.lemmas.Bool.{ne_eqb}
use Rattle.std.specs.List.{list_all}
use Rattle.std.specs.Prelude.{◌==◌, not, option_map}
use Rattle.attribute_tables_grammar.specs.Laws.{RowsAreLookedUp, NamesAreLookedUp}
use Rattle.attribute_tables_grammar.specs.Lists.{any, Context, list_rule}
use Rattle.attribute_tables_grammar.specs.LookUps.{line_at, Line, link_info_rule, payload_at, row_of_line, rows_rule, rule_or_raw, table_row}
use Rattle.attribute_tables_grammar.specs.Peers.{RuleOfPeers}
use Rattle.attribute_tables_grammar.specs.Rules.{shape_rule}
use Rattle.attribute_tables_grammar.specs.Shapes as shapes
use Rattle.attribute_tables_grammar.specs.Tables.{info_row as grammar_row, rule_of_name, Names, Payload, Table as Rows, Table.end, Table.row, row_in_force}
use Rattle.link_info_grammar.specs.Families.{kinds, port_kinds}
use Rattle.link_info_grammar.specs.LinkInfo.{info_grammar}
use Rattle.link_interpreter.specs.Measures.{rows_of}
use Rattle.link_message_grammar.specs.Body.{attributes_rule}
use Rattle.link_message_grammar.specs.LinkMessage.{bridge, family_of, inet_6, link_table, other, unspec}
use Rattle.link_message_grammar.specs.NestedTables.{resized}
use Rattle.link_tables.proofs.Built.{kinds_built, port_kinds_built}
use Rattle.link_tables.proofs.NameRows.{found_name, held_all}
use Rattle.link_tables.specs.declared.kinds.TheConstants.{KINDS, PORT_KINDS}
use Rattle.link_tables.specs.declared.rows.Held.{Held}
use Rattle.link_tables.specs.declared.rows.Held.TheVariants as H
use Rattle.link_tables.specs.declared.table.Table.{Table}
use Rattle.link_tables.specs.declared.table.TheConstants.{LINK_BRIDGE, LINK_INET6, LINK_OTHER, LINK_UNSPEC}
use Rattle.link_tables.specs.InForce.{data_under, port_data_under, statistics_under}
use Rattle.link_tables.specs.Names.{held_by_name, names_of}
use Rattle.link_tables.specs.declared.names.NameRow.{NameRow}
use Rattle.link_tables.specs.Rows.{form_of, payload_of}
use Rattle.link_tables.specs.Tables.{all_tables, family_table, held_rule, info_payload, is_link_info, table_of}
use Rattle.link_capture_lists.proofs.Lookups.{found, has_rows, row_has_rows, rows_have_rows}
use Rattle.link_capture_lists.specs.ListTables as R
use Rattle.link_capture_lists.specs.ListTables.{NamedRow, find, info_inside, inside_of, row_in, table_rows}
use Rattle.link_capture_lists.specs.RowRules.{LinksAreTables, RowsAreTheTables, grammar_at, inside_rule, peer_of, row_rule}

-- ---- kinds and the contents of their payloads

abbrev Pairs : Type 0
Pairs = List (ℕ × Payload)

abbrev paired : Rows → Pairs
paired end = []
paired (row l n s t) = (l, s) ∷ paired t

abbrev content : Held → Payload
content h = payload_of table_of info_payload h

abbrev paired_rows : List NamedRow → Pairs
paired_rows [] = []
paired_rows (r ∷ rs) = (r.0, content r.2) ∷ paired_rows rs

abbrev at : ℕ → Pairs → Option Payload
at k [] = None
at k (x ∷ xs) = cond (k == x.0) (Some x.1) (at k xs)

abbrev line_payload : Option Line → Option Payload
line_payload o = option_map (λ l. l.payload) o

by_lines : (t : Rows) (k : ℕ) → line_payload (line_at t k) ≡ at k (paired t)
by_lines end k = refl
by_lines (row l n s t) k = elim (k == l) as (λ b. line_payload (cond b (Some (record { is_nested = n; payload = s })) (line_at t k)) ≡ cond b (Some s) (at k (paired t))) [ true ↦ refl | false ↦ by_lines t k ]

abbrev row_payload : Option NamedRow → Option Payload
row_payload o = option_map (λ r. content r.2) o

by_rows : (rs : List NamedRow) (k : ℕ) → row_payload (find k rs) ≡ at k (paired_rows rs)
by_rows [] k = refl
by_rows (r ∷ rs) k = elim (k == r.0) as (λ b. row_payload (cond b (Some r) (find k rs)) ≡ cond b (Some (content r.2)) (at k (paired_rows rs))) [ true ↦ refl | false ↦ by_rows rs k ]

-- tables one after another
paired_at : (ls : List (List NamedRow)) (ts : List Rows) (n : ℕ) → map paired_rows ls ≡ map paired ts → paired_rows (get_or ls n []) ≡ paired (get_or ts n end)
paired_at ls ts n e = sym (get_or-map paired_rows ls n []) ∙ ap (λ ps. get_or ps n []) e ∙ get_or-map paired ts n end

-- these rows are the tables
all_paired : (n : ℕ) → paired_rows (get_or table_rows n []) ≡ paired (table_of n)
unfolding table_of table_rows R.message_rows R.data_rows info_payload resized
all_paired n = paired_at table_rows all_tables n refl

-- ---- rules

module _ (law : RowsAreLookedUp) (judged : Bool) where
  abbrev p : RuleOfPeers
  p = peer_of judged

  of_rows : (t : Table) → not (is_link_info t) ≡ true → rows_of p (table_of t.0) ≡ grammar_at judged t
  unfolding grammar_at
  of_rows t h = elim (is_link_info t) as (λ b. not b ≡ true → rows_of p (table_of t.0) ≡ cond b (info_grammar p) (rows_of p (table_of t.0))) [ true ↦ (λ e. absurd cc) | false ↦ (λ e. refl) ] h

  content_is : (h : Held) → has_rows h ≡ true → held_rule p h ≡ inside_rule judged (inside_of h)
  unfolding rows_rule grammar_at link_info_rule info_grammar info_payload
  content_is (H.Plain s) e = refl
  content_is H.Peer e = refl
  content_is (H.List f t) e = law.named p _ (table_of t.0) ∙ ap (list_rule (form_of f)) (of_rows t e)
  content_is H.LinkInfo e = refl

  line_rule : (o : Option Line) → (row_of_line p o).rule ≡ rule_or_raw p (line_payload o)
  line_rule None = refl
  line_rule (Some l) = refl

  some_is : (o : Option NamedRow) → ((r : NamedRow) → o ≡ Some r → row_has_rows r ≡ true) → rule_or_raw p (row_payload o) ≡ row_rule judged (R.table_row o)
  some_is None h = refl
  some_is (Some r) h = content_is r.2 (h r refl)

  found_is : (t : ℕ) (k : ℕ) → (table_row p (table_of t) k).rule ≡ row_rule judged (R.table_row (find k (get_or table_rows t [])))
  found_is t k =
      let rs = get_or table_rows t [] in
      line_rule (line_at (table_of t) k) ∙ ap (rule_or_raw p) (by_lines (table_of t) k ∙ ap (at k) (sym (all_paired t)) ∙ sym (by_rows rs k))
      ∙ some_is (find k rs) (λ r e. found row_has_rows k rs r (rows_have_rows t) e)

  -- ---- link info

  module _ (names : NamesAreLookedUp) where
    name_is : (rows : List NameRow) (built : Names) → names_of table_of info_payload rows ≡ built → list_all (λ r. has_rows r.2) rows ≡ true →
        (n : List ℕ) → rule_of_name p built n ≡ inside_rule judged (inside_of (held_by_name rows n))
    name_is rows built e h n =
        names p built n ∙ ap (λ ns. rule_or_raw p (payload_at ns n)) (sym e) ∙ sym (found_name p table_of info_payload rows n)
        ∙ content_is (held_by_name rows n) (held_all has_rows refl rows n h)

    kind_is : (o : Option (List ℕ)) → (row_in_force o (rule_of_name p kinds)).rule ≡ inside_rule judged (info_inside 2 (data_under o))
    unfolding data_under
    kind_is None = refl
    kind_is (Some n) = name_is KINDS kinds kinds_built refl n

    port_is : (o : Option (List ℕ)) → (row_in_force o (rule_of_name p port_kinds)).rule ≡ inside_rule judged (info_inside 5 (port_data_under o))
    unfolding port_data_under
    port_is None = refl
    port_is (Some n) = name_is PORT_KINDS port_kinds port_kinds_built refl n

    statistics_is : (o : Option (List ℕ)) → (row_in_force o (λ n. shape_rule shapes.raw)).rule ≡ inside_rule judged (info_inside 3 (statistics_under o))
    statistics_is None = refl
    statistics_is (Some n) = refl

    -- a kind above 5 is raw
    rule_above : (c : Context) (k : ℕ) → 5 < k → (grammar_row (rule_of_name p kinds) (rule_of_name p port_kinds) c k).rule ≡ row_rule judged (R.info_row c k)
    rule_above c k h = simp (ne_eqb k 1 (λ e. omega arith), ne_eqb k 4 (λ e. omega arith), ne_eqb k 5 (λ e. omega arith), ne_eqb k 2 (λ e. omega arith), ne_eqb k 3 (λ e. omega arith))

    info_is : (c : Context) (k : ℕ) → (grammar_row (rule_of_name p kinds) (rule_of_name p port_kinds) c k).rule ≡ row_rule judged (R.info_row c k)
    info_is c zero = refl
    info_is c (suc zero) = refl
    info_is c (suc (suc zero)) = kind_is c.kind
    info_is c (suc (suc (suc zero))) = statistics_is c.kind
    info_is c (suc (suc (suc (suc zero)))) = refl
    info_is c (suc (suc (suc (suc (suc zero))))) = port_is c.port_kind
    info_is c (suc (suc (suc (suc (suc (suc k)))))) = rule_above c (suc (suc (suc (suc (suc (suc k)))))) (omega arith)

    table_is : (t : Table) (c : Context) (k : ℕ) → ((grammar_at judged t).row c k).rule ≡ row_rule judged (row_in t c k)
    unfolding grammar_at row_in info_grammar
    table_is t c k =
        elim (is_link_info t) as (λ b. ((cond b (info_grammar p) (rows_of p (table_of t.0))).row c k).rule ≡ row_rule judged (cond b (R.info_row c k) (R.table_row (find k (get_or table_rows t.0 [])))))
        [ true ↦ info_is c k | false ↦ found_is t.0 k ]

pub tables : RowsAreLookedUp → NamesAreLookedUp → RowsAreTheTables
tables law names judged = table_is law judged names

-- ---- links

abbrev picked : Bool → Bool → Bool → Table
picked a b c = cond a LINK_UNSPEC (cond b LINK_BRIDGE (cond c LINK_INET6 LINK_OTHER))

picked_table : (a b c : Bool) → table_of (picked a b c).0 ≡ link_table (cond a unspec (cond b bridge (cond c inet_6 other)))
unfolding table_of
picked_table true b c = refl
picked_table false true c = refl
picked_table false false true = refl
picked_table false false false = refl

picked_rows : (a b c : Bool) → not (is_link_info (picked a b c)) ≡ true
picked_rows true b c = refl
picked_rows false true c = refl
picked_rows false false true = refl
picked_rows false false false = refl

pub links : RowsAreLookedUp → LinksAreTables
unfolding attributes_rule rows_rule
links law judged n =
    law.payload (peer_of judged) any (link_table (family_of n)) ∙ ap (λ t. list_rule any (rows_of (peer_of judged) t)) (sym (picked_table (n == 0) (n == 7) (n == 10)))
    ∙ ap (list_rule any) (of_rows law judged (family_table n) (picked_rows (n == 0) (n == 7) (n == 10)))
