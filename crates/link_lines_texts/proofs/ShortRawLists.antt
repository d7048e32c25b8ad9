-- How long the lines of raw lists are.
use Rattle.std.proofs.Common.{◌≡◌, ℕ, zero, suc, ◌+◌, ◌*◌, ◌-◌, ◌%◌, ◌<◌, ◌≤◌, Bool, true, false, cond, List, [], ◌∷◌, ◌++◌, length, take, drop, Option, Some, None, refl, sym, ap, subst, ◌∙◌, arith}
use Rattle.std.specs.Prelude.{⊤, ◌==◌, ◌&&◌, codes, nat_le, option_map}
use Rattle.std.specs.Fmt.{decimal}
use Rattle.std.proofs.lemmas.Bool.{and_parts, cond_both, le-leb, leb-true}
use Rattle.std.proofs.lemmas.Fmt.{length-decimal-le}
use Rattle.std.proofs.lemmas.List.{length-append, length-drop, length-replicate, length-take}
use Rattle.std.proofs.lemmas.Option.{same_Some}
use Rattle.netlink_packet_core_grammar.specs.Attributes.{Attribute, attribute_length, first_attribute, nla_align}
use Rattle.netlink_packet_core_grammar.specs.Bytes.{AreBytes}
use Rattle.netlink_packet_core_grammar.specs.Numbers.{u16_at}
use Rattle.netlink_packet_core_grammar.proofs.Attributes.{sized}
use Rattle.netlink_packet_core_grammar.proofs.Bytes.{AreBytes-drop, AreBytes-first_attribute, AreBytes-take}
use Rattle.link_lines_parts.specs.Levels.{deepest_level}
use Rattle.link_lines_parts.specs.Whole.{is_padded, is_whole, padding_after, shown_padding}
use Rattle.link_lines_values.specs.Bytes.{bytes_text}
use Rattle.link_lines_values.specs.DenseRows.{find}
use Rattle.link_lines_values.specs.Digits.{four_digits}
use Rattle.link_lines_values.specs.Indents.{indent}
use Rattle.link_lines_values.specs.Layouts.{layout_fields}
use Rattle.link_lines_values.specs.NumberTexts.{number_texts}
use Rattle.link_lines_values.specs.Records.{fields_text, total_size}
use Rattle.link_lines_raw.specs.declared.lists.ListedBy.TheVariants as L
use Rattle.link_lines_raw.specs.declared.raw_tables.RawTable.{RawTable}
use Rattle.link_lines_raw.specs.declared.raw_tables.TheConstants.{INDEXED_ACTION, INDEXED_IPV4, INDEXED_IPV6}
use Rattle.link_lines_raw.specs.declared.rows.RawBy.TheVariants as R
use Rattle.link_lines_raw.specs.Attributes.{after_name, are_records_after, has_nested_bit, index_name, indexed_row, is_first_record, is_headed, is_next_hop, is_shown, named_text, nested_word, next_hop_line, plain_bytes, proper_row, raw_row, raw_text, record_words, row_or_index}
use Rattle.link_lines_raw.specs.Choices.{choices_of, payload_after, resolved}
use Rattle.link_lines_raw.specs.Coverage.{in_each}
use Rattle.link_lines_raw.specs.Lines.{line_text, lines_text}
use Rattle.link_lines_raw.specs.Lists.{Listed, first_part, head_of, head_text, held_lines, inside_lines, levels_of, lines_inside, lines_within, listed_in, listed_lines, named_head, named_list, next_lines, padding_text, padding_words, part_head, part_lines, part_list, part_padding, part_text, part_with_head, raw_below, shown_head, shown_list}
use Rattle.link_lines_raw.specs.Names.{Named, all_named_rows}
use Rattle.link_lines_raw.specs.Rows.{Raw, RecordLine}
use Rattle.link_lines_raw.specs.Tables.{bridge_rows, cfm_rows, kind_rows, link_rows, multicast_rows, neighbour_rows, option_rows, raw_rows_of, route_rows, traffic_rows}
use Rattle.link_lines_raw.proofs.Named.{found_in}
use Rattle.link_lines_raw.proofs.RawRows.{in_table, is_row}
use Rattle.link_lines_raw.proofs.Chosen.{chosen_or_holds}
use Rattle.link_lines_raw.proofs.Spans.{below_is_text, lines_joined_text, no_text, part_is}
use Rattle.link_lines_raw.proofs.Unfolding.{InReach, first_bytes_are, hop_sizes, named_in_reach, part_in_reach, shown_in_reach}
use Rattle.link_lines_texts.specs.Growth.{allowance, factor, fields_most, is_short_held, is_short_line, is_short_raw, is_short_row, leaves_space, margin, padding_margin, raw_name_size}
use Rattle.link_lines_texts.proofs.ShortBytes.{bytes_text_short}
use Rattle.link_lines_texts.proofs.ShortExact.{raw_value_short}
use Rattle.link_lines_texts.proofs.ShortValues.{IsShort, fields_short, space}

-- ---- rows, by computation

rows_short : in_each (all_named_rows is_short_row) ≡ true
unfolding link_rows kind_rows bridge_rows cfm_rows route_rows neighbour_rows traffic_rows multicast_rows option_rows choices_of layout_fields number_texts
rows_short = refl

hop_line_short : is_short_line next_hop_line ≡ true
unfolding next_hop_line layout_fields number_texts
hop_line_short = refl

-- What is known of a row: its name leaves space for values, and what it holds is short.
pub record IsShortRow (title : List ℕ) (raw : Raw) : Type 0 where
  pub name : leaves_space (raw_name_size title) ≡ true
  pub held : is_short_raw (raw_name_size title) raw ≡ true

row_by : (k : ℕ) (row : Named Raw) → is_short_row k row ≡ true → IsShortRow row.0 row.1
row_by k row h =
    let a = and_parts (leaves_space (raw_name_size row.0)) _ h in
    record { name = a.0; held = a.1 }

-- The names of indexes.
index_space : (k : ℕ) → k < 65536 → leaves_space (raw_name_size (index_name k)) ≡ true
index_space k h =
    let s = length-decimal-le 5 k (omega arith) (omega (arith, h)) (omega (arith, h)) in
    le-leb (raw_name_size (index_name k) + 46) allowance (omega (arith, s, length-append (decimal k) (codes "]")))

index_by : (a b c : Bool) (n : ℕ) (x y z raw : Raw) → is_short_raw n x ≡ true → is_short_raw n y ≡ true → is_short_raw n z ≡ true → cond a (Some x) (cond b (Some y) (cond c (Some z) None)) ≡ Some raw → is_short_raw n raw ≡ true
index_by true b c n x y z raw h i j e = ap (is_short_raw n) (sym (same_Some x raw e)) ∙ h
index_by false true c n x y z raw h i j e = ap (is_short_raw n) (sym (same_Some y raw e)) ∙ i
index_by false false true n x y z raw h i j e = ap (is_short_raw n) (sym (same_Some z raw e)) ∙ j
index_by false false false n x y z raw h i j e = absurd cc

index_held : (n : ℕ) (t : RawTable) (raw : Raw) → indexed_row t ≡ Some raw → is_short_raw n raw ≡ true
index_held n t raw h =
    index_by (t.0 == INDEXED_IPV4.0) (t.0 == INDEXED_IPV6.0) (t.0 == INDEXED_ACTION.0) n _ _ _ raw refl refl refl h

index_row : (t : RawTable) (k : ℕ) (row : Named Raw) (o : Option Raw) → k < 65536 → indexed_row t ≡ o → option_map (λ raw. (index_name k, raw)) o ≡ Some row → IsShortRow row.0 row.1
index_row t k row None l h e = absurd cc
index_row t k row (Some raw) l h e =
    subst (λ r. IsShortRow r.0 r.1) (same_Some (index_name k, raw) row e) (record { name = index_space k l; held = index_held (raw_name_size (index_name k)) t raw h })

proper_by : (t : RawTable) (k : ℕ) (row : Named Raw) (o : Option (Named Raw)) → k < 65536 → find k (raw_rows_of t.0) ≡ o → row_or_index k o (indexed_row t) ≡ Some row → IsShortRow row.0 row.1
proper_by t k row (Some r) l h e =
    subst (λ x. IsShortRow x.0 x.1) (same_Some r row e) (row_by k r (found_in is_short_row k (raw_rows_of t.0) r (in_table (all_named_rows is_short_row) t.0 refl rows_short) h))
proper_by t k row None l h e = index_row t k row (indexed_row t) l refl e

proper_short : (t : RawTable) (k : ℕ) (row : Named Raw) → k < 65536 → proper_row t k ≡ Some row → IsShortRow row.0 row.1
unfolding proper_row
proper_short t k row l h = proper_by t k row (find k (raw_rows_of t.0)) l refl h

pub row_short : (t : RawTable) (k : ℕ) (row : Named Raw) → raw_row t k ≡ Some row → IsShortRow row.0 row.1
row_short t k row h = proper_short t (k % 0x4000) row (omega arith) (is_row t k row h).proper

-- ---- lines

pub indent_size : (level : ℕ) → length (indent level) ≡ 2 * level
indent_size level = length-replicate (2 * level) 32

pub words_short : (line : RecordLine) (p : List ℕ) → is_short_line line ≡ true → AreBytes p → margin + length (record_words line p) ≤ factor * total_size line.1
words_short line p h a = omega (arith, leb-true (margin + length line.0 + fields_most line.1) (factor * total_size line.1) h, fields_short 32 false line.1 p a, length-append line.0 (fields_text 32 false line.1 p))

line_size : (level : ℕ) (s : List ℕ) → level ≤ deepest_level → length (line_text (level, s)) ≤ margin + length s
line_size level s h = omega (arith, indent_size level, h, length-append (indent level) (s ++ 10 ∷ []), length-append s (10 ∷ []))

nested_size : (k : ℕ) → length (nested_word k) ≤ 7
nested_size k = cond_both (has_nested_bit k) (codes " nested") [] (λ s. length s ≤ 7) (λ e. omega arith) (λ e. omega arith)

-- The bytes of what is listed, if anything.
abbrev pub listed_size : Option (Listed × List ℕ) → ℕ
listed_size None = 0
listed_size (Some x) = length x.1

-- What follows a name, the line of a record, and the bytes of a list below leave space for each other.
abbrev IsShortBlock : ℕ → List ℕ → ℕ → Option (List ℕ) → Option (Listed × List ℕ) → List ℕ → Type 0
IsShortBlock extra s level head list p = extra + length s + length (head_text level head) + factor * listed_size list ≤ allowance + factor * length p

-- The lines of what is listed are short enough: records have a line that is.
abbrev pub IsShortListed : Listed → Type 0
IsShortListed (L.Records line) = is_short_line line ≡ true
IsShortListed listed = ⊤

abbrev pub AreShortListed : Option (Listed × List ℕ) → Type 0
AreShortListed None = ⊤
AreShortListed (Some x) = IsShortListed x.0 × AreBytes x.1

-- ---- payloads

-- What is chosen is short if what may be chosen is.
held_short_by : (extra : ℕ) (raw : Raw) → is_short_raw extra raw ≡ true → is_short_held extra raw ≡ true
held_short_by extra (R.Chosen choice kind) h = refl
held_short_by extra (R.Value shown) h = h
held_short_by extra (R.List table) h = h
held_short_by extra (R.Head line table) h = h
held_short_by extra (R.HeadAndRecords head line) h = h
held_short_by extra (R.Hops table) h = h
held_short_by extra (R.Records line) h = h

resolved_short : (extra : ℕ) (raw : Raw) (list : List ℕ) → is_short_raw extra raw ≡ true → is_short_held extra (resolved raw list) ≡ true
unfolding resolved
resolved_short extra (R.Chosen choice kind) list h = chosen_or_holds (is_short_held extra) (R.Chosen choice kind) choice (payload_after kind 0 list) h refl
resolved_short extra (R.Value shown) list h = h
resolved_short extra (R.List table) list h = h
resolved_short extra (R.Head line table) list h = h
resolved_short extra (R.HeadAndRecords head line) list h = h
resolved_short extra (R.Hops table) list h = h
resolved_short extra (R.Records line) list h = h

-- A record at the start of a payload, and what follows it.
headed_block : (extra level : ℕ) (line : RecordLine) (test : List ℕ → Bool) (inside : List ℕ → Listed) (p : List ℕ) → leaves_space extra ≡ true → is_short_line line ≡ true → AreBytes p → (nat_le (level + 0) deepest_level && is_headed test line p) ≡ true →
    IsShortBlock extra [] level (Some (record_words line (take (total_size line.1) p))) (Some (inside p, drop (total_size line.1) p)) p
headed_block extra level line test inside p h k a e =
    let n = total_size line.1 in
    let b = and_parts (nat_le (level + 0) deepest_level) (is_headed test line p) e in
    let c = and_parts (nat_le n (length p)) _ b.1 in
    let words = record_words line (take n p) in
    omega (arith, space extra h, line_size level words (omega (arith, leb-true (level + 0) deepest_level b.0)), words_short line (take n p) k (AreBytes-take n p a), leb-true n (length p) c.0, length-drop n p)

-- A payload that lines show.
shown_block : (extra level : ℕ) (raw : Raw) (p : List ℕ) → leaves_space extra ≡ true → is_short_held extra raw ≡ true → AreBytes p → is_shown level raw p ≡ true → IsShortBlock extra [] level (head_of raw p) (listed_in raw p) p
shown_block extra level (R.Value shown) p h k a e = omega (arith, space extra h)
shown_block extra level (R.List table) p h k a e = omega (arith, space extra h)
shown_block extra level (R.Chosen choice kind) p h k a e = omega (arith, space extra h)
shown_block extra level (R.Head line table) p h k a e = headed_block extra level line is_whole (λ q. L.Attributes table (drop (total_size line.1) q)) p h k a e
shown_block extra level (R.HeadAndRecords head line) p h k a e =
    headed_block extra level head (are_records_after line.1 0) (λ q. L.Records line) p h (and_parts (is_short_line head) (is_short_line line) k).0 a e
shown_block extra level (R.Hops table) p h k a e = omega (arith, space extra h)
shown_block extra level (R.Records line) p h k a e = omega (arith, space extra h)

block_by : (extra level : ℕ) (raw : Raw) (p : List ℕ) (b : Bool) → leaves_space extra ≡ true → is_short_held extra raw ≡ true → AreBytes p → is_shown level raw p ≡ b →
    IsShortBlock extra (cond b [] (plain_bytes p)) level (cond b (head_of raw p) None) (cond b (listed_in raw p) None) p
block_by extra level raw p true h k a e = shown_block extra level raw p h k a e
block_by extra level raw p false h k a e = omega (arith, space extra h, bytes_text_short p)

value_by : (extra level : ℕ) (s p : List ℕ) (b : Bool) → IsShort extra s p → IsShortBlock extra s level (cond b None None) (cond b None None) p
value_by extra level s p true h = omega (arith, h)
value_by extra level s p false h = omega (arith, h)

payload_short : (extra level : ℕ) (raw : Raw) (p : List ℕ) → leaves_space extra ≡ true → is_short_held extra raw ≡ true → AreBytes p → IsShortBlock extra (after_name level raw p) level (shown_head level raw p) (shown_list level raw p) p
unfolding after_name
payload_short extra level (R.Value shown) p h k a = value_by extra level _ p (is_shown level (R.Value shown) p) (raw_value_short extra shown p h k a)
payload_short extra level raw p h k a = block_by extra level raw p (is_shown level raw p) h k a refl

-- What a payload lists is bytes, and has short lines.
listed_short : (extra : ℕ) (raw : Raw) (p : List ℕ) → is_short_held extra raw ≡ true → AreBytes p → AreShortListed (listed_in raw p)
listed_short extra (R.Value shown) p k a = record {}
listed_short extra (R.List table) p k a = (record {}, a)
listed_short extra (R.Chosen choice kind) p k a = record {}
listed_short extra (R.Head line table) p k a = (record {}, AreBytes-drop (total_size line.1) p a)
listed_short extra (R.HeadAndRecords head line) p k a = ((and_parts (is_short_line head) (is_short_line line) k).1, AreBytes-drop (total_size head.1) p a)
listed_short extra (R.Hops table) p k a = (record {}, a)
listed_short extra (R.Records line) p k a = (k, a)

shown_listed : (extra level : ℕ) (raw : Raw) (p : List ℕ) → is_short_held extra raw ≡ true → AreBytes p → AreShortListed (shown_list level raw p)
shown_listed extra level raw p k a = cond_both (is_shown level raw p) (listed_in raw p) None AreShortListed (λ e. listed_short extra raw p k a) (λ e. record {})

-- ---- attributes

-- An attribute's line, without its indentation and its newline, the line of a record below it, and the bytes of a list.
abbrev IsShortAttribute : ℕ → RawTable → List ℕ → Attribute → Type 0
IsShortAttribute level t w e =
    padding_margin + length (raw_text level t w e) + length (head_text level (named_head level (raw_row t e.kind) w e)) + factor * listed_size (named_list level (raw_row t e.kind) w e) ≤ allowance + factor * length e.payload

named_by : (level : ℕ) (t : RawTable) (w : List ℕ) (e : Attribute) (o : Option (Named Raw)) → raw_row t e.kind ≡ o → AreBytes e.payload →
    padding_margin + length (named_text level o w e) + length (head_text level (named_head level o w e)) + factor * listed_size (named_list level o w e) ≤ allowance + factor * length e.payload
named_by level t w e None h a = omega (arith, bytes_text_short e.payload, length-append (four_digits e.kind) (bytes_text e.payload))
named_by level t w e (Some row) h a =
    let r = row_short t e.kind row h in
    let raw = resolved row.1 w in
    let after = after_name level raw e.payload in
    omega (arith, payload_short (raw_name_size row.0) level raw e.payload r.name (resolved_short (raw_name_size row.0) row.1 w r.held) a, nested_size e.kind, length-append row.0 (nested_word e.kind ++ after), length-append (nested_word e.kind) after)

pub attribute_short : (level : ℕ) (t : RawTable) (w : List ℕ) (e : Attribute) → AreBytes e.payload → IsShortAttribute level t w e
unfolding raw_text
attribute_short level t w e a = named_by level t w e (raw_row t e.kind) refl a

named_listed : (level : ℕ) (t : RawTable) (w : List ℕ) (e : Attribute) (o : Option (Named Raw)) → raw_row t e.kind ≡ o → AreBytes e.payload → AreShortListed (named_list level o w e)
named_listed level t w e None h a = record {}
named_listed level t w e (Some row) h a = shown_listed (raw_name_size row.0) level (resolved row.1 w) e.payload (resolved_short (raw_name_size row.0) row.1 w (row_short t e.kind row h).held) a

-- ---- parts

-- The lines of a part, the list below it and the bytes after it are short enough for the bytes.
-- The fields of a next hop's line have 6 bytes.
hop_total : total_size next_hop_line.1 ≡ 6
unfolding next_hop_line layout_fields
hop_total = refl

attribute_first : (t : RawTable) (w bytes : List ℕ) (e : Attribute) (rest : List ℕ) → first_part (L.Attributes t w) bytes ≡ Some (e, rest) → first_attribute bytes ≡ Some (e, rest)
unfolding first_part
attribute_first t w bytes e rest h = h

record IsShortPart (level : ℕ) (listed : Listed) (bytes : List ℕ) (e : Attribute) (rest : List ℕ) : Type 0 where
  lines : length (part_with_head level listed e (part_padding listed e bytes)) + factor * listed_size (part_list level listed e) + factor * length rest ≤ factor * length bytes
  list : AreShortListed (part_list level listed e)
  rest_bytes : AreBytes rest

aligned : (n : ℕ) → n ≤ nla_align n
aligned n = omega arith

part_size : (level : ℕ) (listed : Listed) (e : Attribute) (padding : Option (List ℕ)) → level ≤ deepest_level →
    length (part_with_head level listed e padding) ≤ margin + length (part_text level listed e) + length (head_text (level + 1) (padding_words padding)) + length (head_text (level + 1) (part_head level listed e))
part_size level listed e padding h =
    let own = head_text (level + 1) (padding_words padding) in
    let head = head_text (level + 1) (part_head level listed e) in
    omega (arith, indent_size level, h, length-append (indent level) (part_text level listed e ++ 10 ∷ (own ++ head)), length-append (part_text level listed e) (10 ∷ (own ++ head)), length-append own head)

hex_size : (p : List ℕ) → length (bytes_text p) ≤ 3 * length p
hex_size [] = omega arith
hex_size (b ∷ p) = omega (arith, bytes_text_short (b ∷ p))

padding_size : (level : ℕ) (p : List ℕ) → level ≤ deepest_level → length (line_text (level + 1, padding_text p)) ≤ padding_margin + 3 * length p
padding_size level p h =
    omega (arith, h, indent_size (level + 1), hex_size p, length-append (indent (level + 1)) (padding_text p ++ 10 ∷ []), length-append (padding_text p) (10 ∷ []), length-append (codes "padding") (bytes_text p))

shown_size : (level n : ℕ) (p : List ℕ) → level ≤ deepest_level → length (head_text (level + 1) (padding_words (shown_padding n p))) ≤ padding_margin + 3 * length (padding_after n p)
shown_size level n p h = cond_both (is_padded n p) None (Some (padding_after n p)) (λ o. length (head_text (level + 1) (padding_words o)) ≤ padding_margin + 3 * length (padding_after n p)) (λ e. omega arith) (λ e. padding_size level (padding_after n p) h)

-- The bytes of an attribute, of its padding, and after it.
spaced : (n : ℕ) (p : List ℕ) → n ≤ length p → n + length (padding_after n p) + (length p - nla_align n) ≤ length p
spaced n p h = omega (arith, h, aligned n, length-drop n (take (nla_align n) p), length-take (nla_align n) p)

attribute_part : (level : ℕ) (t : RawTable) (w bytes : List ℕ) (e : Attribute) (rest : List ℕ) → level ≤ deepest_level → AreBytes bytes → first_attribute bytes ≡ Some (e, rest) → IsShortPart level (L.Attributes t w) bytes e rest
unfolding part_text part_head part_list part_padding
attribute_part level t w bytes e rest l a h =
    let n = attribute_length e in
    let s = sized bytes e rest h in
    let b = AreBytes-first_attribute bytes e rest h a in
    record {
      lines = omega (arith, part_size level (L.Attributes t w) e (shown_padding n bytes) l, shown_size level n bytes l, spaced n bytes s.within, attribute_short (level + 1) t w e b.1, s.rest_length);
      list = named_listed (level + 1) t w e (raw_row t e.kind) refl b.1;
      rest_bytes = b.2;
    }

hop_part : (level : ℕ) (t : RawTable) (bytes : List ℕ) (e : Attribute) (rest : List ℕ) → level + 1 ≤ deepest_level → AreBytes bytes → first_part (L.NextHops t) bytes ≡ Some (e, rest) → IsShortPart level (L.NextHops t) bytes e rest
unfolding first_part part_text part_head part_list part_padding
hop_part level t bytes e rest l a h =
    let n = u16_at 0 bytes in
    let f = first_bytes_are n bytes e rest (is_next_hop bytes) h in
    let s = hop_sizes bytes f.holds in
    let b : AreBytes e.payload = subst AreBytes f.payload_is (AreBytes-take n bytes a) in
    let size : length e.payload ≡ n = ap length (sym f.payload_is) ∙ omega (arith, length-take n bytes, s.high) in
    let after : length rest ≡ length bytes - n = ap length (sym f.rest_is) ∙ length-drop n bytes in
    record {
      lines = omega (arith, part_size level (L.NextHops t) e None (omega (arith, l)), words_short next_hop_line (take 6 (drop 2 e.payload)) hop_line_short (AreBytes-take 6 (drop 2 e.payload) (AreBytes-drop 2 e.payload b)), hop_total, size, after, s.low, s.high, length-drop 8 e.payload);
      list = (record {}, AreBytes-drop 8 e.payload b);
      rest_bytes = subst AreBytes f.rest_is (AreBytes-drop n bytes a);
    }

record_part : (level : ℕ) (line : RecordLine) (bytes : List ℕ) (e : Attribute) (rest : List ℕ) → level ≤ deepest_level → is_short_line line ≡ true → AreBytes bytes → first_part (L.Records line) bytes ≡ Some (e, rest) → IsShortPart level (L.Records line) bytes e rest
unfolding first_part part_text part_head part_list part_padding
record_part level line bytes e rest l k a h =
    let n = total_size line.1 in
    let f = first_bytes_are n bytes e rest (is_first_record line.1 bytes) h in
    let b : AreBytes e.payload = subst AreBytes f.payload_is (AreBytes-take n bytes a) in
    let c = and_parts (nat_le 1 n) _ f.holds in
    let high = leb-true n (length bytes) (and_parts (nat_le n (length bytes)) _ c.1).0 in
    let after : length rest ≡ length bytes - n = ap length (sym f.rest_is) ∙ length-drop n bytes in
    record {
      lines = omega (arith, part_size level (L.Records line) e None l, words_short line e.payload k b, after, high);
      list = record {};
      rest_bytes = subst AreBytes f.rest_is (AreBytes-drop n bytes a);
    }

part_short : (level : ℕ) (listed : Listed) (bytes : List ℕ) (e : Attribute) (rest : List ℕ) → level + levels_of listed ≤ deepest_level → IsShortListed listed → AreBytes bytes → first_part listed bytes ≡ Some (e, rest) → IsShortPart level listed bytes e rest
part_short level (L.Attributes t w) bytes e rest l k a h = attribute_part level t w bytes e rest (omega (arith, l)) a (attribute_first t w bytes e rest h)
part_short level (L.NextHops t) bytes e rest l k a h = hop_part level t bytes e rest l a h
part_short level (L.Records line) bytes e rest l k a h = record_part level line bytes e rest (omega (arith, l)) k a h

-- ---- lists

-- The lines of lists, computed in at most n steps, are short.
abbrev AllShort : ℕ → Type 0
AllShort n = (level : ℕ) (listed : Listed) (bytes : List ℕ) → level + levels_of listed ≤ deepest_level → IsShortListed listed → AreBytes bytes → length (lines_text (lines_within n level listed bytes)) ≤ factor * length bytes

inside_by : (n level : ℕ) (o : Option (Listed × List ℕ)) → AllShort n → InReach level o → AreShortListed o → length (lines_text (lines_inside (λ l m b. lines_within n l m b) level o)) ≤ factor * listed_size o
inside_by n level None h r s = omega (arith, ap length no_text)
inside_by n level (Some x) h r s = h level x.0 x.1 r s.0 s.1

next_by : (n level : ℕ) (listed : Listed) (bytes : List ℕ) (o : Option (Attribute × List ℕ)) → first_part listed bytes ≡ o → AllShort n → level + levels_of listed ≤ deepest_level → IsShortListed listed → AreBytes bytes →
    length (lines_text (next_lines (λ l m b. lines_within n l m b) level listed bytes o)) ≤ factor * length bytes
next_by n level listed bytes None e h l k a = omega (arith, ap length no_text)
next_by n level listed bytes (Some x) e h l k a =
    let p = part_short level listed bytes x.0 x.1 l k a e in
    let padding = part_padding listed x.0 bytes in
    let own = part_lines level listed x.0 padding in
    let inside = lines_inside (λ l m b. lines_within n l m b) (level + 1) (part_list level listed x.0) in
    let more = lines_within n level listed x.1 in
    omega (
      arith,
      p.lines,
      inside_by n (level + 1) (part_list level listed x.0) h (part_in_reach level listed x.0 l) p.list,
      h level listed x.1 l k p.rest_bytes,
      ap length (lines_joined_text own (inside ++ more)),
      ap length (lines_joined_text inside more),
      ap length (part_is level listed x.0 padding),
      length-append (lines_text own) (lines_text (inside ++ more)),
      length-append (lines_text inside) (lines_text more),
    )

within_short : (n : ℕ) → AllShort n
unfolding lines_within
within_short zero level listed bytes l k a = omega (arith, ap length no_text)
within_short (suc n) level listed bytes l k a = next_by n level listed bytes (first_part listed bytes) refl (within_short n) l k a

pub listed_lines_short : (level : ℕ) (listed : Listed) (bytes : List ℕ) → level + levels_of listed ≤ deepest_level → IsShortListed listed → AreBytes bytes → length (lines_text (listed_lines level listed bytes)) ≤ factor * length bytes
unfolding listed_lines
listed_lines_short level listed bytes l k a = within_short _ level listed bytes l k a

inside_short : (level : ℕ) (o : Option (Listed × List ℕ)) → InReach level o → AreShortListed o → length (lines_text (inside_lines level o)) ≤ factor * listed_size o
inside_short level None r s = omega (arith, ap length no_text)
inside_short level (Some x) r s = listed_lines_short level x.0 x.1 r s.0 s.1

-- A raw attribute's text, and the lines below its line.
pub raw_short : (level : ℕ) (t : RawTable) (e : Attribute) → AreBytes e.payload → length (raw_text level t [] e) + length (lines_text (raw_below level t e)) ≤ allowance + factor * length e.payload
raw_short level t e a =
    let head = named_head level (raw_row t e.kind) [] e in
    let list = named_list level (raw_row t e.kind) [] e in
    omega (
      arith,
      attribute_short level t [] e a,
      inside_short level list (named_in_reach level (raw_row t e.kind) [] e) (named_listed level t [] e (raw_row t e.kind) refl a),
      ap length (below_is_text level head list),
      length-append (head_text level head) (lines_text (inside_lines level list)),
    )

-- What follows a name, and the lines below its line.
pub held_short : (extra level : ℕ) (raw : Raw) (p : List ℕ) → leaves_space extra ≡ true → is_short_raw extra raw ≡ true → AreBytes p → extra + length (after_name level raw p) + length (lines_text (held_lines level raw p)) ≤ allowance + factor * length p
held_short extra level raw p h k a =
    let head = shown_head level raw p in
    let list = shown_list level raw p in
    omega (
      arith,
      payload_short extra level raw p h (held_short_by extra raw k) a,
      inside_short level list (shown_in_reach level raw p) (shown_listed extra level raw p (held_short_by extra raw k) a),
      ap length (below_is_text level head list),
      length-append (head_text level head) (lines_text (inside_lines level list)),
    )
