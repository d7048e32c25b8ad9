-- The reason why a message's body isn't accepted is on one line.
use Rattle.std.proofs.Common.{◌≡◌, ℕ, zero, suc, ◌+◌, ◌<◌, Bool, true, false, List, [], ◌∷◌, ◌++◌, length, drop, get_or, Option, Some, None, refl, sym, subst, arith}
use Rattle.std.specs.Prelude.{codes, decimal, nat_lt, option_map, slice_index, ⊤}
use Rattle.std.specs.List.{list_all}
use Rattle.std.proofs.lemmas.Bool.{cond_both, ne_eqb}
use Rattle.netlink_packet_core_grammar.specs.Attributes.{Attribute, attribute_length, first_attribute, nla_align, proper_kind}
use Rattle.netlink_packet_core_grammar.specs.Frames.{frame_body, frame_type}
use Rattle.attribute_tables_grammar.specs.Lists.{Context}
use Rattle.link_tables.proofs.LookUps.{all_at}
use Rattle.link_tables.specs.declared.rows.Form.{Form}
use Rattle.link_tables.specs.declared.rows.Form.TheVariants.{Any}
use Rattle.link_tables.specs.declared.table.Table.{Table}
use Rattle.link_tables.specs.Tables.{family_table, is_link_info}
use Rattle.link_capture_grammar.specs.Bodies.{is_link_type}
use Rattle.link_capture_grammar.specs.declared.fault.FaultKind.{FaultKind}
use Rattle.link_capture_grammar.specs.declared.fault.FaultKind.TheVariants.{Refused}
use Rattle.link_capture_lists.proofs.Lookups.{found}
use Rattle.link_capture_refusals.specs.ReasonTexts.{number_between, words}
use Rattle.link_capture_refusals.specs.Refusals.{Found, ListRefusal, attribute_refusal, code_refusal, empty_refusal, found_at, frame_refusal, inside_refusal, link_refusal, list_refusal, named, next_refusal, or_else, refusal_within, row_refusal, whole_refusal}
use Rattle.link_capture_lists.specs.ListTables.{Listing, NamedRow, data_rows, find, info_inside, info_name, list_rest, message_rows, row_in, table_row, table_rows, whole}
use Rattle.link_tables.specs.InForce.{held_in_force}
use Rattle.link_capture_refusals.specs.RefusalTexts.{path_text, separator_after_name}
use Rattle.link_capture_lists.specs.RowRules.{following, is_accepted}
use Rattle.link_capture_refusals.specs.declared.reason.Reason.{Reason}
use Rattle.link_capture_refusals.specs.declared.reason.Reason.TheVariants as R
use Rattle.link_capture_lists.specs.declared.tables.Inside.{Inside}
use Rattle.link_capture_lists.specs.declared.tables.Inside.TheVariants as I
use Rattle.link_lines_values.specs.Laws.{IsLine}
use Rattle.link_lines_values.specs.Values.{is_line}
use Rattle.link_lines_values.proofs.NumbersDetermined.{high}
use Rattle.link_lines_values.proofs.OneLine.{digits_line, is_line_checked, lines_joined}
use Rattle.link_lines.specs.MessageLines.{body_reason, refusal_words}

-- ---- the words of reasons

number_line : (n : ℕ) → IsLine (decimal n)
number_line n = digits_line (decimal n) (high 10 n)

counted_line : (before : List ℕ) (n : ℕ) (following : List ℕ) → is_line before ≡ true → IsLine following → IsLine (number_between before n following)
counted_line before n following h k = lines_joined before (decimal n ++ following) (is_line_checked before h) (lines_joined (decimal n) following (number_line n) k)

bytes_counted : (before : List ℕ) (n : ℕ) (following : List ℕ) → is_line before ≡ true → is_line following ≡ true → IsLine (number_between before n following)
bytes_counted before n following h k = counted_line before n following h (is_line_checked following k)

words_line : (r : Reason) → IsLine (words r)
words_line (R.PayloadSize n) = bytes_counted (codes "a payload of ") n (codes " bytes") refl refl
words_line (R.CutHeader n) = bytes_counted (codes "no attribute: ") n (codes " bytes are left") refl refl
words_line (R.WrongLength n l) =
    let left = codes " bytes are left, and its length is " in
    lines_joined (number_between (codes "no attribute: ") n left) (decimal l) (bytes_counted (codes "no attribute: ") n left refl refl) (number_line l)
words_line (R.CutLink n) = bytes_counted (codes "a header of ") n (codes " bytes") refl refl
words_line (R.CutCode n) = bytes_counted (codes "a body of ") n (codes " bytes") refl refl
words_line r = is_line_checked (words r) refl

-- ---- the names of attributes

-- A row's name is on a line, if there is a row.
abbrev HasNameOnALine : Option (List ℕ × Inside) → Type 0
HasNameOnALine None = ⊤
HasNameOnALine (Some x) = IsLine x.0

abbrev is_name_on_a_line : NamedRow → Bool
is_name_on_a_line r = is_line r.1

all_names : list_all (λ rs. list_all is_name_on_a_line rs) table_rows ≡ true
unfolding table_rows message_rows data_rows
all_names = refl

table_name : (k : ℕ) (rs : List NamedRow) (o : Option NamedRow) → list_all is_name_on_a_line rs ≡ true → find k rs ≡ o → HasNameOnALine (table_row o)
table_name k rs None h e = tt
table_name k rs (Some r) h e = is_line_checked r.1 (found is_name_on_a_line k rs r h e)

info_name_line : (c : Context) (k : ℕ) (n : List ℕ) → is_line n ≡ true → HasNameOnALine (Some (n, info_inside k (held_in_force c k)))
info_name_line c k n h = is_line_checked n h

-- a kind above 5 has no name
no_name_above : (k : ℕ) → 5 < k → info_name k ≡ None
no_name_above k h = simp (ne_eqb k 1 (λ e. omega arith), ne_eqb k 2 (λ e. omega arith), ne_eqb k 3 (λ e. omega arith), ne_eqb k 4 (λ e. omega arith), ne_eqb k 5 (λ e. omega arith))

info_names : (c : Context) (k : ℕ) → HasNameOnALine (option_map (λ n. (n, info_inside k (held_in_force c k))) (info_name k))
info_names c zero = tt
info_names c (suc zero) = info_name_line c 1 (codes "IFLA_INFO_KIND") refl
info_names c (suc (suc zero)) = info_name_line c 2 (codes "IFLA_INFO_DATA") refl
info_names c (suc (suc (suc zero))) = info_name_line c 3 (codes "IFLA_INFO_XSTATS") refl
info_names c (suc (suc (suc (suc zero)))) = info_name_line c 4 (codes "IFLA_INFO_SLAVE_KIND") refl
info_names c (suc (suc (suc (suc (suc zero))))) = info_name_line c 5 (codes "IFLA_INFO_SLAVE_DATA") refl
info_names c (suc (suc (suc (suc (suc (suc k)))))) = subst (λ n. HasNameOnALine (option_map (λ n. (n, info_inside (suc (suc (suc (suc (suc (suc k)))))) (held_in_force c (suc (suc (suc (suc (suc (suc k))))))))) n)) (sym (no_name_above (suc (suc (suc (suc (suc (suc k)))))) (omega arith))) tt

row_name : (t : Table) (c : Context) (k : ℕ) → HasNameOnALine (row_in t c k)
unfolding row_in
row_name t c k =
    let rs = get_or table_rows t.0 [] in
    cond_both (is_link_info t) _ (table_row (find k rs)) HasNameOnALine (λ e. info_names c k)
    (λ e. table_name k rs (find k rs) (all_at (λ rs. list_all is_name_on_a_line rs) table_rows t.0 [] all_names refl) refl)

-- ---- the names around a refusal

-- The names of a refusal are on one line, if there is one.
abbrev IsOnALine : Option Found → Type 0
IsOnALine None = ⊤
IsOnALine (Some f) = IsLine (path_text f.path)

separator_line : (ns : List (List ℕ)) → IsLine (separator_after_name ns)
separator_line [] = is_line_checked (codes ": ") refl
separator_line (n ∷ ns) = is_line_checked (codes " > ") refl

named_line : (n : List ℕ) (o : Option Found) → IsLine n → IsOnALine o → IsOnALine (option_map (named n) o)
named_line n None h k = tt
named_line n (Some f) h k =
    lines_joined n (separator_after_name f.path ++ path_text f.path) h (lines_joined (separator_after_name f.path) (path_text f.path) (separator_line f.path) k)

first_line : (o p : Option Found) → IsOnALine o → IsOnALine p → IsOnALine (or_else o p)
first_line None p h k = k
first_line (Some f) p h k = h

empty_line : (form : Form) (offset : ℕ) → IsOnALine (empty_refusal form offset)
empty_line Any offset = tt
empty_line form offset = tt

-- What holds for the lists inside holds for an attribute and for the list that has it.
module _ (list : ListRefusal) (each : (l : Listing) (offset : ℕ) (bytes : List ℕ) → IsOnALine (list l offset bytes)) where
  whole_line : (l : Listing) (offset : ℕ) (p : List ℕ) → IsOnALine (whole_refusal list l offset p)
  whole_line l offset [] = empty_line l.table.form offset
  whole_line l offset (b ∷ p) = each l (offset + 4) (b ∷ p)

  link_line : (judged : Bool) (attribute_offset offset : ℕ) (b : List ℕ) → IsOnALine (link_refusal list judged attribute_offset offset b)
  link_line judged attribute_offset offset b =
      cond_both (nat_lt (length b) 16) (Some (found_at attribute_offset (R.CutLink (length b)))) (list (whole Any (family_table (slice_index b 0)) judged) (offset + 16) (drop 16 b)) IsOnALine
      (λ e. tt) (λ e. each (whole Any (family_table (slice_index b 0)) judged) (offset + 16) (drop 16 b))

  inside_line : (judged : Bool) (i : Inside) (offset : ℕ) (p : List ℕ) → IsOnALine (inside_refusal list judged i offset p)
  inside_line judged (I.Value s) offset p = tt
  inside_line judged (I.List f t) offset p = whole_line (whole f t judged) offset p
  inside_line judged I.Peer offset p = first_line (link_refusal list false offset (offset + 4) p) _ (link_line false offset (offset + 4) p) tt
  inside_line judged (I.Refused r) offset p = tt

  row_line : (judged : Bool) (o : Option (List ℕ × Inside)) (offset : ℕ) (p : List ℕ) → HasNameOnALine o → IsOnALine (row_refusal list judged o offset p)
  row_line judged None offset p h = tt
  row_line judged (Some x) offset p h = named_line x.0 (inside_refusal list judged x.1 offset p) h (inside_line judged x.1 offset p)

  attribute_line : (l : Listing) (offset : ℕ) (e : Attribute) → IsOnALine (attribute_refusal list l offset e)
  attribute_line l offset e =
      let row = row_in l.table.rows l.context (proper_kind e.kind) in
      cond_both (is_accepted l e) None (row_refusal list l.judged row offset e.payload) IsOnALine
      (λ a. tt) (λ a. row_line l.judged row offset e.payload (row_name l.table.rows l.context (proper_kind e.kind)))

  next_line : (l : Listing) (offset : ℕ) (bytes : List ℕ) (o : Option (Attribute × List ℕ)) → IsOnALine (next_refusal list l offset bytes o)
  next_line l offset bytes None = tt
  next_line l offset bytes (Some x) =
      first_line (attribute_refusal list l offset x.0) _ (attribute_line l offset x.0)
      (each (following l x.0) (offset + nla_align (attribute_length x.0)) (list_rest l.table.form x.1))

within_line : (n : ℕ) (l : Listing) (offset : ℕ) (bytes : List ℕ) → IsOnALine (refusal_within n l offset bytes)
unfolding refusal_within
within_line zero l offset bytes = tt
within_line (suc n) l offset [] = tt
within_line (suc n) l offset (b ∷ bytes) = next_line (λ m q d. refusal_within n m q d) (within_line n) l offset (b ∷ bytes) (first_attribute (b ∷ bytes))

list_line : (l : Listing) (offset : ℕ) (bytes : List ℕ) → IsOnALine (list_refusal l offset bytes)
unfolding list_refusal
list_line l offset bytes = within_line (length bytes) l offset bytes

frame_line : (offset : ℕ) (c : List ℕ) → IsOnALine (frame_refusal offset c)
unfolding frame_refusal
frame_line offset c =
    cond_both (is_link_type (frame_type c)) (link_refusal list_refusal true (offset + 16) (offset + 16) (frame_body c)) (Some (code_refusal (frame_body c))) IsOnALine
    (λ e. link_line list_refusal list_line true (offset + 16) (offset + 16) (frame_body c)) (λ e. tt)

-- ---- reasons

refusal_line_by : (o : Option Found) → IsOnALine o → IsLine (refusal_words o)
refusal_line_by None h = tt
refusal_line_by (Some f) h = lines_joined (path_text f.path) (words f.reason) h (words_line f.reason)

pub reason_line : (kind : FaultKind) (frame : List ℕ) → IsLine (body_reason kind frame)
reason_line Refused frame = refusal_line_by (frame_refusal 0 frame) (frame_line 0 frame)
reason_line kind frame = is_line_checked (body_reason kind frame) refl
