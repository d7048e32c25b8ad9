-- Names determine the rows that have them.
use Rattle.std.proofs.Common.{◌≡◌, ℕ, ◌%◌, ◌<◌, Bool, true, false, cond, List, [], ◌∷◌, Option, Some, None, refl, sym, ap, ◌∙◌}
use Rattle.std.specs.Prelude.{◌==◌, ◌||◌, not, get_or, bytes_eq}
use Rattle.std.specs.List.{list_all}
use Rattle.std.proofs.lemmas.Bool.{and_parts, eqb-true, true≢false}
use Rattle.std.proofs.lemmas.Slice.Eq.{bytes_eq-Decides}
use Rattle.link_tables.proofs.LookUps.{all_at}
use Rattle.link_lines_values.specs.DenseRows.{find}
use Rattle.link_lines_raw.specs.declared.raw_tables.RawTable.{RawTable}
use Rattle.link_lines_raw.specs.declared.raw_tables.TheConstants.{UNNAMED}
use Rattle.link_lines_raw.specs.Attributes.{indexed_row, proper_row, raw_row, row_or_index}
use Rattle.link_lines_raw.specs.Names.{Named, all_named_rows, has_name, names_apart}
use Rattle.link_lines_raw.specs.Rows.{Raw}
use Rattle.link_lines_raw.specs.Tables.{option_rows, raw_rows_of}
use Rattle.link_lines_raw.proofs.Named.{apart_in, chosen, first_holds, found_in, name_of, others_hold}
use Rattle.link_lines_raw.proofs.RawRows.{is_row}
use Rattle.link_tables.specs.declared.table.Table.{Table}
use Rattle.link_lines_texts.specs.declared.raw_tables.TheConstants.{RAW_TABLES}
use Rattle.link_lines_texts.specs.Coverage.{has_line, has_no_indexes, in_each, names_differ, raw_names_differ}
use Rattle.link_lines_texts.specs.AttributeNames.{Name, AttributeRow, attribute_name_of, attribute_names_of}
use Rattle.link_lines_texts.specs.RawTables.{raw_table, table_in}
use Rattle.link_lines_texts.proofs.LineCuts.{IsWord, Starts}
use Rattle.link_lines_texts.proofs.ListsDetermined.{NamesDetermined}
use Rattle.link_lines_texts.proofs.RowsComputed.{all_are_apart, all_are_named, all_on_lines, all_raw_apart}

-- ---- what holds in each table

pub in_table : (f : List AttributeRow → Bool) (m : ℕ) → f [] ≡ true → in_each f ≡ true → f (attribute_names_of m) ≡ true
unfolding attribute_names_of
in_table f m e h = search (chosen f, all_at f, first_holds, others_hold) depth 12

-- A property of all names of a table holds for each of them.
pub found : (f : ℕ → Name → Bool) (m k : ℕ) (t : Name) → all_named_rows f (attribute_names_of m) ≡ true → attribute_name_of m k ≡ Some t → f k t ≡ true
unfolding attribute_name_of
found f m k t h e = found_in f k (attribute_names_of m) t h e

named : (m k : ℕ) (t : Name) → attribute_name_of m k ≡ Some t → IsWord t.0 × (Starts t.0 × (get_or t.0 0 0 < 97))
named m k t e = name_of t.0 (found has_name m k t (in_table (all_named_rows has_name) m refl all_are_named) e)

one_name : (m k l : ℕ) (t u : Name) → attribute_name_of m k ≡ Some t → attribute_name_of m l ≡ Some u → t.0 ≡ u.0 → k ≡ l
unfolding attribute_name_of
one_name m k l t u e f same = apart_in k l t u (attribute_names_of m) (in_table names_apart m refl all_are_apart) same e f

-- ---- names of raw attributes

-- The tests of the raw attributes of a table.
record RawApart (m : Table) (r : RawTable) : Type 0 where
  indexes : has_no_indexes (indexed_row r) ≡ true
  names : names_differ (attribute_names_of m.0) (raw_rows_of r.0) ≡ true

without_rows : raw_rows_of UNNAMED.0 ≡ []
unfolding raw_rows_of option_rows
without_rows = refl

unnamed_apart : (m : Table) → RawApart m UNNAMED
unnamed_apart m = record { indexes = refl; names = ap (names_differ (attribute_names_of m.0)) without_rows }

apart_by : (m : Table) (row : Table × RawTable) (rows : List (Table × RawTable)) (b : Bool) → (row.0.0 == m.0) ≡ b → raw_names_differ row ≡ true → RawApart m (table_in rows m) → RawApart m (cond b row.1 (table_in rows m))
apart_by m row rows true h a more =
    let parts = and_parts (has_no_indexes (indexed_row row.1)) (names_differ (attribute_names_of row.0.0) (raw_rows_of row.1.0)) a in
    record { indexes = parts.0; names = ap (λ n. names_differ (attribute_names_of n) (raw_rows_of row.1.0)) (sym (eqb-true row.0.0 m.0 h)) ∙ parts.1 }
apart_by m row rows false h a more = more

apart_among : (m : Table) (rows : List (Table × RawTable)) → list_all raw_names_differ rows ≡ true → RawApart m (table_in rows m)
apart_among m [] h = unnamed_apart m
apart_among m (row ∷ rows) h =
    let parts = and_parts (raw_names_differ row) (list_all raw_names_differ rows) h in
    apart_by m row rows (row.0.0 == m.0) refl parts.0 (apart_among m rows parts.1)

raw_apart : (m : Table) → RawApart m (raw_table m)
unfolding raw_table
raw_apart m = apart_among m RAW_TABLES.now all_raw_apart

one_kind : (k l : ℕ) (n t : List ℕ) (b : Bool) → bytes_eq n t ≡ b → t ≡ n → (not b || (k == l)) ≡ true → k ≡ l
one_kind k l n t true h e a = eqb-true k l a
one_kind k l n t false h e a = absurd (true≢false (sym ((bytes_eq-Decides n t).1 (sym e)) ∙ h))

found_kind : (m : Table) (k l : ℕ) (t : Name) (n : Named Raw) → attribute_name_of m.0 k ≡ Some t → find l (raw_rows_of (raw_table m).0) ≡ Some n → t.0 ≡ n.0 → k ≡ l
found_kind m k l t n h i e =
    let others = found_in (λ l n. all_named_rows (λ k t. not (bytes_eq n.0 t.0) || (k == l)) (attribute_names_of m.0)) l (raw_rows_of (raw_table m).0) n (raw_apart m).names i in
    one_kind k l n.0 t.0 (bytes_eq n.0 t.0) refl e (found (λ k t. not (bytes_eq n.0 t.0) || (k == l)) m.0 k t others h)

by_row : (m : Table) (k l : ℕ) (t : Name) (n : Named Raw) (a : Option (Named Raw)) (b : Option Raw) → attribute_name_of m.0 k ≡ Some t → find l (raw_rows_of (raw_table m).0) ≡ a → has_no_indexes b ≡ true → row_or_index l a b ≡ Some n → t.0 ≡ n.0 → k ≡ l
by_row m k l t n (Some x) b h i none e same = found_kind m k l t n h (i ∙ e) same
by_row m k l t n None None h i none e same = absurd cc
by_row m k l t n None (Some raw) h i none e same = absurd cc

proper_kind_of : (m : Table) (k l : ℕ) (t : Name) (n : Named Raw) → attribute_name_of m.0 k ≡ Some t → proper_row (raw_table m) l ≡ Some n → t.0 ≡ n.0 → k ≡ l
unfolding proper_row
proper_kind_of m k l t n h i = by_row m k l t n (find l (raw_rows_of (raw_table m).0)) (indexed_row (raw_table m)) h refl (raw_apart m).indexes i

raw_kind : (m : Table) (k l : ℕ) (t : Name) (n : Named Raw) → attribute_name_of m.0 k ≡ Some t → raw_row (raw_table m) l ≡ Some n → t.0 ≡ n.0 → k ≡ l % 0x4000
raw_kind m k l t n h i = proper_kind_of m k (l % 0x4000) t n h (is_row (raw_table m) l n i).proper

pub names_determined : (m : Table) → NamesDetermined m
names_determined m = record {
  word = λ k t l e. (named m.0 k t e).0;
  upper = λ k t l e. (named m.0 k t e).1;
  line = λ k t e. found has_line m.0 k t (in_table (all_named_rows has_line) m.0 refl all_on_lines) e;
  apart = λ k l t u i j. one_name m.0 k l t u;
  raw = raw_kind m;
}
