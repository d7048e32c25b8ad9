-- Facts of the rows of raw attributes, by computation: names are different words, and rows are determined.
use Rattle.std.proofs.Common.{◌≡◌, ℕ, zero, suc, ◌/◌, ◌%◌, ◌<◌, Bool, true, false, cond, List, [], ◌∷◌, ◌++◌, drop, get_or, Option, Some, None, refl, sym, ap, subst, ◌∙◌, arith}
use Rattle.std.specs.Prelude.{◌==◌, option_map}
use Rattle.std.specs.Fmt.{decimal}
use Rattle.std.specs.List.{list_all}
use Rattle.std.proofs.lemmas.Bool.{and_parts, eqb-true}
use Rattle.std.proofs.lemmas.Fmt.{decimal_injective}
use Rattle.std.proofs.lemmas.List.{append_cancel_right}
use Rattle.std.proofs.lemmas.Option.{same_Some}
use Rattle.link_lines_values.specs.DenseRows.{find}
use Rattle.link_lines_values.specs.Layouts.{layout_fields}
use Rattle.link_lines_values.specs.NumberTexts.{number_texts}
use Rattle.link_lines_values.proofs.NumbersDetermined.{high}
use Rattle.link_lines_raw.specs.declared.raw_tables.RawTable.{RawTable}
use Rattle.link_lines_raw.specs.declared.raw_tables.TheConstants.{INDEXED_ACTION, INDEXED_IPV4, INDEXED_IPV6}
use Rattle.link_lines_raw.specs.declared.rows.Choice.{Choice}
use Rattle.link_lines_raw.specs.declared.rows.RawBy.TheVariants as R
use Rattle.link_lines_raw.specs.Attributes.{has_byte_order_bit, index_name, indexed_row, proper_row, raw_row, row_or_index}
use Rattle.link_lines_raw.specs.Coverage.{determines_raw, has_value, in_each, is_row_determined, is_chosen_by_value, is_table_determined, is_value}
use Rattle.link_lines_raw.specs.Choices.{choices_of, resolved}
use Rattle.link_lines_raw.specs.Laws.{RawTablesAreDetermined}
use Rattle.link_lines_raw.specs.Names.{Named, NameRowOf, all_named_rows, has_name, names_apart}
use Rattle.link_lines_raw.specs.Rows.{Raw}
use Rattle.link_lines_raw.specs.Tables.{bridge_rows, cfm_rows, kind_rows, link_rows, multicast_rows, neighbour_rows, option_rows, raw_groups, raw_rows_of, route_rows, traffic_rows}
use Rattle.link_lines_raw.proofs.Chosen.{resolved_holds}
use Rattle.link_lines_raw.proofs.Named.{apart_in, found_in, name_of}
use Rattle.link_lines_raw.proofs.Words.{IsWord, Starts}

-- ---- each table

pub tables_determined : RawTablesAreDetermined
unfolding link_rows kind_rows bridge_rows cfm_rows route_rows neighbour_rows traffic_rows multicast_rows option_rows choices_of layout_fields number_texts
tables_determined = (refl, refl)

all_at : {A : Type 0} (f : A → Bool) (d : A) (n : ℕ) (ts : List A) → f d ≡ true → list_all f ts ≡ true → f (get_or ts n d) ≡ true
all_at f d n [] e h = e
all_at f d zero (t ∷ ts) e h = (and_parts (f t) (list_all f ts) h).0
all_at f d (suc n) (t ∷ ts) e h = all_at f d n ts e (and_parts (f t) (list_all f ts) h).1

pub in_table : (f : List (NameRowOf Raw) → Bool) (n : ℕ) → f [] ≡ true → in_each f ≡ true → f (raw_rows_of n) ≡ true
unfolding raw_rows_of
in_table f n e h = all_at f [] (n % 32) (get_or raw_groups (n / 32) []) e (all_at (λ rows. list_all f rows) [] (n / 32) raw_groups refl h)

-- The tests of one table.
record TableFacts (rows : List (NameRowOf Raw)) : Type 0 where
  named : all_named_rows has_name rows ≡ true
  determined : all_named_rows is_row_determined rows ≡ true
  apart : names_apart rows ≡ true
  types : all_named_rows (is_chosen_by_value rows) rows ≡ true

facts : (n : ℕ) → TableFacts (raw_rows_of n)
facts n =
    let rows = raw_rows_of n in
    let h : is_table_determined rows ≡ true = in_table is_table_determined n refl tables_determined.0 in
    let a = and_parts (all_named_rows has_name rows) _ h in
    let b = and_parts (all_named_rows is_row_determined rows) _ a.1 in
    let c = and_parts (names_apart rows) _ b.1 in
    record { named = a.0; determined = b.0; apart = c.0; types = c.1 }

-- ---- indexes as names

digits_end : (s : List ℕ) → IsWord s → IsWord (s ++ 93 ∷ [])
digits_end [] h = (omega arith, record {})
digits_end (c ∷ s) h = (h.0, digits_end s h.1)

index_word : (k : ℕ) → IsWord (index_name k)
index_word k = (omega arith, digits_end (decimal k) (high 10 k))

indexes_determined : (k l : ℕ) → k < 65536 → l < 65536 → index_name k ≡ index_name l → k ≡ l
indexes_determined k l i j e = decimal_injective k l (omega (arith, i)) (omega (arith, j)) (append_cancel_right (decimal k) (decimal l) (93 ∷ []) (ap (drop 1) e))

-- One of three rows, or none.
abbrev one_of : Bool → Bool → Bool → Raw → Raw → Raw → Option Raw
one_of a b c x y z = cond a (Some x) (cond b (Some y) (cond c (Some z) None))

picked : (a b c : Bool) (x y z raw : Raw) → determines_raw x ≡ true → determines_raw y ≡ true → determines_raw z ≡ true → one_of a b c x y z ≡ Some raw → determines_raw raw ≡ true
picked true b c x y z raw h i j e = ap determines_raw (sym (same_Some x raw e)) ∙ h
picked false true c x y z raw h i j e = ap determines_raw (sym (same_Some y raw e)) ∙ i
picked false false true x y z raw h i j e = ap determines_raw (sym (same_Some z raw e)) ∙ j
picked false false false x y z raw h i j e = absurd cc

indexed_determined : (t : RawTable) (raw : Raw) → indexed_row t ≡ Some raw → determines_raw raw ≡ true
indexed_determined t raw h = picked (t.0 == INDEXED_IPV4.0) (t.0 == INDEXED_IPV6.0) (t.0 == INDEXED_ACTION.0) _ _ _ raw refl refl refl h

no_rows_at : (n m : ℕ) → (n == m) ≡ true → raw_rows_of m ≡ [] → raw_rows_of n ≡ []
no_rows_at n m h e = ap raw_rows_of (eqb-true n m h) ∙ e

empty_by : (n : ℕ) (a b c : Bool) (x y z raw : Raw) → (n == INDEXED_IPV4.0) ≡ a → (n == INDEXED_IPV6.0) ≡ b → (n == INDEXED_ACTION.0) ≡ c → one_of a b c x y z ≡ Some raw → raw_rows_of n ≡ []
unfolding raw_rows_of kind_rows traffic_rows
empty_by n true b c x y z raw h i j e = no_rows_at n INDEXED_IPV4.0 h refl
empty_by n false true c x y z raw h i j e = no_rows_at n INDEXED_IPV6.0 i refl
empty_by n false false true x y z raw h i j e = no_rows_at n INDEXED_ACTION.0 j refl
empty_by n false false false x y z raw h i j e = absurd cc

-- A table in which each kind is an index has no rows.
indexed_empty : (t : RawTable) (raw : Raw) → indexed_row t ≡ Some raw → raw_rows_of t.0 ≡ []
indexed_empty t raw h = empty_by t.0 _ _ _ _ _ _ raw refl refl refl h

-- ---- the row of a kind

-- A name is a word that begins with an upper-case letter or a bracket, and its row is determined.
pub record RowFacts (row : Named Raw) : Type 0 where
  pub word : IsWord row.0
  pub starts : Starts row.0
  pub upper : get_or row.0 0 0 < 97
  pub determined : determines_raw row.1 ≡ true

found_facts : (t : RawTable) (k : ℕ) (row : Named Raw) → find k (raw_rows_of t.0) ≡ Some row → RowFacts row
found_facts t k row h =
    let f = facts t.0 in
    let n = name_of row.0 (found_in has_name k (raw_rows_of t.0) row f.named h) in
    record { word = n.0; starts = n.1.0; upper = n.1.1; determined = found_in is_row_determined k (raw_rows_of t.0) row f.determined h }

index_facts : (t : RawTable) (k : ℕ) (row : Named Raw) (o : Option Raw) → indexed_row t ≡ o → option_map (λ raw. (index_name k, raw)) o ≡ Some row → RowFacts row
index_facts t k row None h e = absurd cc
index_facts t k row (Some raw) h e =
    subst RowFacts (same_Some (index_name k, raw) row e)
    (record { word = index_word k; starts = omega arith; upper = omega arith; determined = indexed_determined t raw h })

proper_by : (t : RawTable) (k : ℕ) (row : Named Raw) (o : Option (Named Raw)) → find k (raw_rows_of t.0) ≡ o → row_or_index k o (indexed_row t) ≡ Some row → RowFacts row
proper_by t k row (Some r) h e = subst RowFacts (same_Some r row e) (found_facts t k r h)
proper_by t k row None h e = index_facts t k row (indexed_row t) refl e

proper_facts : (t : RawTable) (k : ℕ) (row : Named Raw) → proper_row t k ≡ Some row → RowFacts row
unfolding proper_row
proper_facts t k row h = proper_by t k row (find k (raw_rows_of t.0)) refl h

-- A kind with a row lacks the byte-order bit.
pub record IsRow (t : RawTable) (k : ℕ) (row : Named Raw) : Type 0 where
  pub bit : has_byte_order_bit k ≡ false
  pub proper : proper_row t (k % 0x4000) ≡ Some row

row_by : (t : RawTable) (k : ℕ) (row : Named Raw) (b : Bool) → has_byte_order_bit k ≡ b → cond b None (proper_row t (k % 0x4000)) ≡ Some row → IsRow t k row
row_by t k row true h e = absurd cc
row_by t k row false h e = record { bit = h; proper = e }

pub is_row : (t : RawTable) (k : ℕ) (row : Named Raw) → raw_row t k ≡ Some row → IsRow t k row
unfolding raw_row
is_row t k row h = row_by t k row (has_byte_order_bit k) refl h

pub row_facts : (t : RawTable) (k : ℕ) (row : Named Raw) → raw_row t k ≡ Some row → RowFacts row
row_facts t k row h = proper_facts t (k % 0x4000) row (is_row t k row h).proper

-- What an attribute holds, also if another one chooses it, is determined.
pub held_determined : (t : RawTable) (k : ℕ) (row : Named Raw) (list : List ℕ) → raw_row t k ≡ Some row → determines_raw (resolved row.1 list) ≡ true
held_determined t k row list h = resolved_holds determines_raw row.1 list tables_determined.1 (row_facts t k row h).determined

-- ---- different names

no_find : (t : RawTable) (k : ℕ) (raw : Raw) (row : Named Raw) → indexed_row t ≡ Some raw → find k (raw_rows_of t.0) ≡ Some row → ⊥
no_find t k raw row h e = let none : find k [] ≡ Some row = ap (find k) (sym (indexed_empty t raw h)) ∙ e in absurd cc

index_is : (k : ℕ) (row : Named Raw) (raw : Raw) → Some (index_name k, raw) ≡ Some row → row.0 ≡ index_name k
index_is k row raw e = ap (λ r. r.0) (sym (same_Some (index_name k, raw) row e))

proper_apart : (t : RawTable) (k l : ℕ) (x y : Named Raw) (a b : Option (Named Raw)) (c : Option Raw) → k < 65536 → l < 65536 → find k (raw_rows_of t.0) ≡ a → find l (raw_rows_of t.0) ≡ b → indexed_row t ≡ c →
    row_or_index k a c ≡ Some x → row_or_index l b c ≡ Some y → x.0 ≡ y.0 → k ≡ l
proper_apart t k l x y (Some r) (Some s) c p q h i j d e same =
    apart_in k l r s (raw_rows_of t.0) (facts t.0).apart (ap (λ z. z.0) (same_Some r x d) ∙ same ∙ ap (λ z. z.0) (sym (same_Some s y e))) h i
proper_apart t k l x y (Some r) None None p q h i j d e same = absurd cc
proper_apart t k l x y (Some r) None (Some raw) p q h i j d e same = absurd (no_find t k raw r j h)
proper_apart t k l x y None (Some s) None p q h i j d e same = absurd cc
proper_apart t k l x y None (Some s) (Some raw) p q h i j d e same = absurd (no_find t l raw s j i)
proper_apart t k l x y None None None p q h i j d e same = absurd cc
proper_apart t k l x y None None (Some raw) p q h i j d e same = indexes_determined k l p q (sym (index_is k x raw d) ∙ same ∙ index_is l y raw e)

proper_names_apart : (t : RawTable) (k l : ℕ) (x y : Named Raw) → k < 65536 → l < 65536 → proper_row t k ≡ Some x → proper_row t l ≡ Some y → x.0 ≡ y.0 → k ≡ l
unfolding proper_row
proper_names_apart t k l x y p q d e same = proper_apart t k l x y (find k (raw_rows_of t.0)) (find l (raw_rows_of t.0)) (indexed_row t) p q refl refl refl d e same

-- Two kinds with one name differ at most in the nested bit.
pub names_determined : (t : RawTable) (k l : ℕ) (x y : Named Raw) → raw_row t k ≡ Some x → raw_row t l ≡ Some y → x.0 ≡ y.0 → k % 0x4000 ≡ l % 0x4000
names_determined t k l x y h i e = proper_names_apart t (k % 0x4000) (l % 0x4000) x y (omega arith) (omega arith) (is_row t k x h).proper (is_row t l y i).proper e

-- ---- attributes that choose

value_by : (rows : List (NameRowOf Raw)) (kind : ℕ) (c : Choice) (k : ℕ) (row : Named Raw) → row.1 ≡ R.Chosen c k → is_chosen_by_value rows kind row ≡ true → has_value (find k rows) ≡ true
value_by rows kind c k (name, R.Chosen d j) e h = let same : j ≡ k = cc in ap (λ i. has_value (find i rows)) (sym same) ∙ h
value_by rows kind c k (name, raw) e h = absurd cc

found_value : (rows : List (NameRowOf Raw)) (k : ℕ) (o : Option (Named Raw)) → find k rows ≡ o → has_value o ≡ true → (row : Named Raw) × (find k rows ≡ Some row) × (is_value row.1 ≡ true)
found_value rows k None h v = absurd cc
found_value rows k (Some row) h v = (row, h, v)

none_chosen : (a b c : Bool) (x y z raw : Raw) (d : Choice) (k : ℕ) → (x ≡ R.Chosen d k → ⊥) → (y ≡ R.Chosen d k → ⊥) → (z ≡ R.Chosen d k → ⊥) → one_of a b c x y z ≡ Some raw → raw ≡ R.Chosen d k → ⊥
none_chosen true b c x y z raw d k h i j e same = h (same_Some x raw e ∙ same)
none_chosen false true c x y z raw d k h i j e same = i (same_Some y raw e ∙ same)
none_chosen false false true x y z raw d k h i j e same = j (same_Some z raw e ∙ same)
none_chosen false false false x y z raw d k h i j e same = absurd cc

index_differs : (t : RawTable) (raw : Raw) (c : Choice) (k : ℕ) → indexed_row t ≡ Some raw → raw ≡ R.Chosen c k → ⊥
index_differs t raw c k h = none_chosen (t.0 == INDEXED_IPV4.0) (t.0 == INDEXED_IPV6.0) (t.0 == INDEXED_ACTION.0) _ _ _ raw c k (λ e. absurd cc) (λ e. absurd cc) (λ e. absurd cc) h

-- The attribute that chooses what a row holds has a row that holds a value.
pub record ChoosingRow (t : RawTable) (k : ℕ) : Type 0 where
  pub row : Named Raw
  pub proper : proper_row t k ≡ Some row
  pub value : is_value row.1 ≡ true

choosing_of : (t : RawTable) (k : ℕ) → has_value (find k (raw_rows_of t.0)) ≡ true → ChoosingRow t k
unfolding proper_row
choosing_of t k h =
    let v = found_value (raw_rows_of t.0) k (find k (raw_rows_of t.0)) refl h in
    record { row = v.0; proper = ap (λ o. row_or_index k o (indexed_row t)) v.1; value = v.2 }

choosing_by : (t : RawTable) (l : ℕ) (c : Choice) (k : ℕ) (row : Named Raw) (a : Option (Named Raw)) (b : Option Raw) → find l (raw_rows_of t.0) ≡ a → indexed_row t ≡ b → row_or_index l a b ≡ Some row → row.1 ≡ R.Chosen c k → ChoosingRow t k
choosing_by t l c k row (Some r) b h i e same =
    let one : r ≡ row = same_Some r row e in
    choosing_of t k (value_by (raw_rows_of t.0) l c k r (ap (λ z. z.1) one ∙ same) (found_in (is_chosen_by_value (raw_rows_of t.0)) l (raw_rows_of t.0) r (facts t.0).types h))
choosing_by t l c k row None None h i e same = absurd cc
choosing_by t l c k row None (Some raw) h i e same = absurd (index_differs t raw c k i (ap (λ z. z.1) (same_Some (index_name l, raw) row e) ∙ same))

pub choosing_row : (t : RawTable) (l : ℕ) (c : Choice) (k : ℕ) (row : Named Raw) → raw_row t l ≡ Some row → row.1 ≡ R.Chosen c k → ChoosingRow t k
unfolding proper_row
choosing_row t l c k row h same = choosing_by t (l % 0x4000) c k row (find (l % 0x4000) (raw_rows_of t.0)) (indexed_row t) refl refl (is_row t l row h).proper same
