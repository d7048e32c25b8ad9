-- Rows in code, and their values.
use Rattle.std.proofs.Common.{◌≡◌, ℕ, zero, suc, ◌+◌, ◌-◌, ◌<◌, ◌≤◌, Bool, true, false, cond, List, [], ◌∷◌, length, get_or, Bor, Option, Some, None, refl, sym, ap, ◌∙◌, subst, zero-add, arith}
use Rattle.std.specs.Prelude.{◌==◌, ◌&&◌, nat_lt, not}
use Rattle.std.specs.List.{list_all}
use Rattle.std.specs.Str.{IsAscii, IsUtf8}
use Rattle.std.proofs.lemmas.Bool.{and_parts, cond_both, ltb-true, ne_eqb}
use Rattle.std.proofs.lemmas.List.{get_or-append_right, get_or_append_left}
use Rattle.std.proofs.lemmas.Str.{IsUtf8-from_ascii}
use Rattle.std.proofs.lemmas.Str.Ascii.{IsAscii-nil, IsAscii-cons}
use Rattle.netlink_packet_core_grammar.specs.Attributes.{Attribute, proper_kind}
use Rattle.attribute_tables_grammar.specs.Lists.{is_kept}
use Rattle.attribute_tables_grammar.specs.Tables.{info_next}
use Rattle.link_info_grammar.specs.LinkInfo.{info_grammar}
use Rattle.link_tables.proofs.NameRows.{held_all}
use Rattle.link_tables.specs.declared.kinds.TheConstants.{KINDS, PORT_KINDS}
use Rattle.link_tables.specs.declared.rows.Form.{Form}
use Rattle.link_tables.specs.declared.rows.Form.TheVariants.{FirstOnly}
use Rattle.link_tables.specs.declared.rows.Held.{Held}
use Rattle.link_tables.specs.declared.rows.Held.TheVariants as H
use Rattle.link_tables.specs.declared.rows.Shape.TheVariants.{Raw, Text}
use Rattle.link_tables.specs.declared.table.TheConstants.{LINK_INFO}
use Rattle.link_tables.specs.declared.kinds.TheConstants.{AMT}
use Rattle.link_tables.specs.InForce.{data_under, held_in_force, held_under, port_data_under, statistics_under}
use Rattle.link_tables.specs.Names.{held_by_name}
use Rattle.link_tables.specs.declared.names.NameRow.{NameRow}
use Rattle.link_tables.specs.Rows.{form_of}
use Rattle.link_tables.specs.declared.table.Table.{Table}
use Rattle.link_interpreter.specs.Measures.{rows_of}
use Rattle.link_tables.specs.Tables.{is_link_info, table_of}
use Rattle.attribute_tables_grammar.specs.Lists.{Context}
use Rattle.link_capture_lists.specs.declared.tables.Inside.{Inside}
use Rattle.link_capture_lists.specs.RowRules.{following, grammar_at, peer_of}
use Rattle.link_capture_lists.specs.ListTables.{IsLower, Listing, NamedRow, data_rows, depth, find, info_inside, inside_depth, inside_of, is_name, list_rest, message_rows, table_rows}

-- a row in code, and its value
abbrev pub Row : Type 0
Row = ℕ × Bor (List ℕ) × Held

abbrev pub row : Row → NamedRow
row r = (r.0, r.1.now, r.2)

ascii : (n : List ℕ) → is_name n ≡ true → IsAscii n
ascii [] h = IsAscii-nil
ascii (b ∷ n) h = let a = and_parts (nat_lt b 128) (is_name n) h in IsAscii-cons b n (ltb-true b 128 a.0) (ascii n a.1)

pub text : (n : List ℕ) → is_name n ≡ true → IsUtf8 n
text n h = IsUtf8-from_ascii n (ascii n h)

-- ---- a property of each row is one of the row that is found

-- the table of a list has rows
abbrev pub has_rows : Held → Bool
has_rows (H.List f t) = not (is_link_info t)
has_rows content = true

abbrev pub row_has_rows : NamedRow → Bool
row_has_rows r = has_rows r.2

abbrev pub is_lower : ℕ → Inside → Bool
is_lower t i = nat_lt (inside_depth true i) (depth true t) && nat_lt (inside_depth false i) (depth false t)

abbrev pub passes : ℕ → NamedRow → Bool
passes t r = is_name r.1 && (row_has_rows r && is_lower t (inside_of r.2))

abbrev pub all_pass : ℕ → List (List NamedRow) → Bool
all_pass n [] = true
all_pass n (rs ∷ ls) = list_all (passes n) rs && all_pass (suc n) ls

rows_pass : all_pass 0 table_rows ≡ true
unfolding table_rows message_rows data_rows
rows_pass = refl

all_at : (n i : ℕ) (ls : List (List NamedRow)) → all_pass n ls ≡ true → list_all (passes (n + i)) (get_or ls i []) ≡ true
all_at n i [] h = refl
all_at n zero (rs ∷ ls) h = let e : n ≡ n + 0 = omega arith in subst (λ m. list_all (passes m) rs ≡ true) e (and_parts _ (all_pass (suc n) ls) h).0
all_at n (suc i) (rs ∷ ls) h =
    let e : suc n + i ≡ n + suc i = omega arith in
    subst (λ m. list_all (passes m) (get_or ls i []) ≡ true) e (all_at (suc n) i ls (and_parts (list_all (passes n) rs) _ h).1)

pub found : (q : NamedRow → Bool) (k : ℕ) (rs : List NamedRow) (s : NamedRow) → list_all q rs ≡ true → find k rs ≡ Some s → q s ≡ true
found q k [] s h e = absurd cc
found q k (r ∷ rs) s h e =
    let a = and_parts (q r) (list_all q rs) h in
    cond_both (k == r.0) (Some r) (find k rs) (λ o. o ≡ Some s → q s ≡ true) (λ _ e. let j : r ≡ s = cc in subst (λ x. q x ≡ true) j a.0) (λ _. found q k rs s a.1) e

each_passes : (t : ℕ) → list_all (passes t) (get_or table_rows t []) ≡ true
each_passes t = subst (λ n. list_all (passes n) (get_or table_rows t []) ≡ true) (zero-add t) (all_at 0 t table_rows rows_pass)

each_has_rows : (t : ℕ) (rs : List NamedRow) → list_all (passes t) rs ≡ true → list_all row_has_rows rs ≡ true
each_has_rows t [] h = refl
each_has_rows t (r ∷ rs) h =
    let a = and_parts (passes t r) (list_all (passes t) rs) h in
    let b = and_parts (row_has_rows r) _ (and_parts (is_name r.1) _ a.0).1 in
    ap (λ x. x && list_all row_has_rows rs) b.0 ∙ each_has_rows t rs a.1

pub rows_have_rows : (t : ℕ) → list_all row_has_rows (get_or table_rows t []) ≡ true
rows_have_rows t = each_has_rows t (get_or table_rows t []) (each_passes t)

lower_by : (t : ℕ) (i : Inside) → is_lower t i ≡ true → IsLower t i
lower_by t i h true = ltb-true _ _ (and_parts (nat_lt (inside_depth true i) (depth true t)) _ h).0
lower_by t i h false = ltb-true _ _ (and_parts (nat_lt (inside_depth true i) (depth true t)) _ h).1

-- the row of a kind in a table
pub record Passed (t : ℕ) (n : List ℕ) (inside : Inside) : Type 0 where
  pub name : is_name n ≡ true
  pub lower : IsLower t inside

pub of_table : (t k : ℕ) (r : NamedRow) → find k (get_or table_rows t []) ≡ Some r → Passed t r.1 (inside_of r.2)
of_table t k r e =
    let a = and_parts (is_name r.1) _ (found (passes t) k (get_or table_rows t []) r (each_passes t) e) in
    record { name = a.0; lower = lower_by t (inside_of r.2) (and_parts (row_has_rows r) _ a.1).1 }

-- ---- link info

abbrev in_info : Held → Bool
in_info h = is_lower LINK_INFO.0 (inside_of h)

refused_lower : (k : ℕ) → IsLower LINK_INFO.0 (info_inside k None)
refused_lower k = λ judged. elim judged as (λ b. 0 < depth b LINK_INFO.0) [ true ↦ omega arith | false ↦ omega arith ]

some_lower : (k : ℕ) (h : Held) → in_info h ≡ true → IsLower LINK_INFO.0 (info_inside k (Some h))
some_lower k h e = lower_by LINK_INFO.0 (inside_of h) e

held_lower : (rows : List NameRow) → list_all (λ r. in_info r.2) rows ≡ true → (k : ℕ) (o : Option (List ℕ)) →
    IsLower LINK_INFO.0 (info_inside k (held_under rows o))
held_lower rows h k None = refused_lower k
held_lower rows h k (Some n) = some_lower k (held_by_name rows n) (held_all in_info refl rows n h)

statistics_lower : (k : ℕ) (o : Option (List ℕ)) → IsLower LINK_INFO.0 (info_inside k (statistics_under o))
statistics_lower k None = refused_lower k
statistics_lower k (Some n) = some_lower k (H.Plain Raw) refl

-- a kind above 5 is raw
raw_above : (c : Context) (k : ℕ) → 5 < k → held_in_force c k ≡ Some (H.Plain Raw)
raw_above c k h = simp (ne_eqb k 1 (λ e. omega arith), ne_eqb k 4 (λ e. omega arith), ne_eqb k 5 (λ e. omega arith), ne_eqb k 2 (λ e. omega arith), ne_eqb k 3 (λ e. omega arith))

-- for all kinds in force
pub info_lower : (c : Context) (k : ℕ) → IsLower LINK_INFO.0 (info_inside k (held_in_force c k))
unfolding data_under port_data_under
info_lower c zero = some_lower 0 (H.Plain Raw) refl
info_lower c (suc zero) = some_lower 1 (H.Plain Text) refl
info_lower c (suc (suc zero)) = held_lower KINDS refl 2 c.kind
info_lower c (suc (suc (suc zero))) = statistics_lower 3 c.kind
info_lower c (suc (suc (suc (suc zero)))) = some_lower 4 (H.Plain Text) refl
info_lower c (suc (suc (suc (suc (suc zero))))) = held_lower PORT_KINDS refl 5 c.port_kind
info_lower c (suc (suc (suc (suc (suc (suc k)))))) = subst (λ h. IsLower LINK_INFO.0 (info_inside (suc (suc (suc (suc (suc (suc k)))))) h)) (sym (raw_above c (suc (suc (suc (suc (suc (suc k)))))) (omega arith))) (some_lower (suc (suc (suc (suc (suc (suc k)))))) (H.Plain Raw) refl)

-- ---- lists

next_in : (judged info : Bool) (t : Table) (c : Context) (e : Attribute) → info ≡ true → (cond info (info_grammar (peer_of judged)) (rows_of (peer_of judged) (table_of t.0))).next c e ≡ info_next c (proper_kind e.kind) e.payload
unfolding info_grammar
next_in judged true t c e h = refl
next_in judged false t c e h = absurd cc

pub info_rest : (l : Listing) (e : Attribute) → is_link_info l.table.rows ≡ true → is_kept (form_of l.table.form) e ≡ true → record l { context = info_next l.context (proper_kind e.kind) e.payload } ≡ following l e
unfolding grammar_at
info_rest l e h k =
    ap (λ c. record l { context = c })
    (sym (next_in l.judged (is_link_info l.table.rows) l.table.rows l.context e h) ∙ ap (λ b. cond b ((grammar_at l.judged l.table.rows).next l.context e) l.context) (sym k))

pub shorter_rest : (f : Form) (after : List ℕ) → length (list_rest f after) ≤ length after
shorter_rest FirstOnly after = omega arith
shorter_rest f after = omega arith

-- ---- rows in two parts

pub message_at : (t : ℕ) → t < AMT.0 → get_or message_rows t [] ≡ get_or table_rows t []
unfolding table_rows message_rows
message_at t h = sym (get_or_append_left message_rows data_rows [] t h)

pub data_at : (t : ℕ) → AMT.0 ≤ t → get_or data_rows (t - AMT.0) [] ≡ get_or table_rows t []
unfolding table_rows message_rows
data_at t h = sym (get_or-append_right message_rows data_rows AMT.0 t [] refl h)
