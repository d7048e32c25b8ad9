-- Each line of a raw list is one line, and doesn't begin with a space.
use Rattle.std.proofs.Common.{◌≡◌, ℕ, zero, suc, ◌+◌, Bool, true, false, cond, List, [], ◌∷◌, ◌++◌, take, drop, Option, Some, None, refl, arith}
use Rattle.std.specs.Prelude.{⊤, nat_le, codes}
use Rattle.std.proofs.lemmas.Bool.{and_parts, leb-true}
use Rattle.netlink_packet_core_grammar.specs.Attributes.{Attribute}
use Rattle.link_lines_values.specs.declared.values.ShownBy.TheVariants.{Bytes}
use Rattle.link_lines_values.specs.Bytes.{bytes_text}
use Rattle.link_lines_values.specs.Laws.{Ends, IsLine}
use Rattle.link_lines_values.specs.Records.{fields_text, total_size}
use Rattle.link_lines_values.specs.Layouts.{layout_fields}
use Rattle.link_lines_values.specs.NumberTexts.{number_texts}
use Rattle.link_lines_values.proofs.OneLine.{fields_are_lines, is_line_checked, values_are_lines}
use Rattle.link_lines_raw.specs.declared.lists.ListedBy.TheVariants as L
use Rattle.link_lines_raw.specs.declared.raw_tables.RawTable.{RawTable}
use Rattle.link_lines_raw.specs.declared.rows.RawBy.TheVariants as R
use Rattle.link_lines_raw.specs.Attributes.{after_name, has_nested_bit, is_shown, named_text, nested_word, next_hop_line, raw_row, raw_text, record_words}
use Rattle.link_lines_raw.specs.Choices.{resolved}
use Rattle.link_lines_raw.specs.Coverage.{determines_raw, is_line_determined, is_line_word}
use Rattle.link_lines_raw.specs.Lines.{Line}
use Rattle.link_lines_raw.specs.Lists.{Listed, first_part, head_line, head_of, inside_lines, lines_inside, lines_within, listed_in, listed_lines, named_head, named_list, next_lines, padding_words, part_head, part_list, part_padding, part_text, shown_head, shown_list}
use Rattle.link_lines_raw.specs.Names.{Named}
use Rattle.link_lines_raw.specs.Rows.{Raw, RecordLine}
use Rattle.link_lines_raw.proofs.Payloads.{line_facts, name_line}
use Rattle.link_lines_raw.proofs.RawRows.{held_determined, row_facts}
use Rattle.link_lines_raw.proofs.Spans.{AreLines}
use Rattle.link_lines_raw.proofs.Unnamed.{kind_line}
use Rattle.link_lines_raw.proofs.Words.{IsWord, Starts, lines_joined, message_label, space_ends, starts_joined, word_line}

-- ---- the words of records

line_word : (s : List ℕ) → is_line_word s ≡ true → IsWord s × Starts s
line_word [] h = absurd cc
line_word (c ∷ s) h =
    let parts = and_parts (nat_le 65 c) _ h in
    let low = leb-true 65 c parts.0 in
    ((omega (arith, low), message_label s parts.1), low)

pub words_end : (line : RecordLine) (p : List ℕ) → Ends (fields_text 32 false line.1 p)
words_end line p = space_ends _ (fields_are_lines.space 32 false line.1 p)

pub words_start : (line : RecordLine) (p : List ℕ) → is_line_determined line ≡ true → IsWord line.0 × Starts (record_words line p)
words_start line p h =
    let w = line_word line.0 (line_facts line h).word in
    (w.0, starts_joined line.0 (fields_text 32 false line.1 p) w.1)

pub words_are_line : (line : RecordLine) (p : List ℕ) → is_line_determined line ≡ true → IsLine (record_words line p)
words_are_line line p h =
    let f = line_facts line h in
    lines_joined line.0 (fields_text 32 false line.1 p) (word_line line.0 (line_word line.0 f.word).0) (fields_are_lines.line 32 false line.1 p (omega arith) f.lines)

-- ---- attributes

nested_by : (b : Bool) → IsLine (cond b (codes " nested") [])
nested_by true = is_line_checked (codes " nested") refl
nested_by false = record {}

named_by : (level : ℕ) (t : RawTable) (w : List ℕ) (e : Attribute) (o : Option (Named Raw)) → raw_row t e.kind ≡ o → IsLine (named_text level o w e) × Starts (named_text level o w e)
named_by level t w e None h = (kind_line e.kind e.payload, omega arith)
named_by level t w e (Some row) h =
    let f = row_facts t e.kind row h in
    let after = after_name level (resolved row.1 w) e.payload in
    let rest = lines_joined (nested_word e.kind) after (nested_by (has_nested_bit e.kind)) (name_line level (resolved row.1 w) e.payload (held_determined t e.kind row w h)) in
    (lines_joined row.0 (nested_word e.kind ++ after) (word_line row.0 f.word) rest, starts_joined row.0 (nested_word e.kind ++ after) f.starts)

-- The text of an attribute's line is one line, and doesn't begin with a space.
pub text_is_line : (level : ℕ) (t : RawTable) (w : List ℕ) (e : Attribute) → IsLine (raw_text level t w e) × Starts (raw_text level t w e)
unfolding raw_text
text_is_line level t w e = named_by level t w e (raw_row t e.kind) refl

-- ---- lists

-- The line of records that are listed determines them.
abbrev pub IsDetermined : Listed → Type 0
IsDetermined (L.Records line) = is_line_determined line ≡ true
IsDetermined listed = ⊤

abbrev pub AreDetermined : Option (Listed × List ℕ) → Type 0
AreDetermined None = ⊤
AreDetermined (Some x) = IsDetermined x.0

listed_determined : (raw : Raw) (p : List ℕ) → determines_raw raw ≡ true → AreDetermined (listed_in raw p)
listed_determined (R.Value shown) p h = record {}
listed_determined (R.List table) p h = record {}
listed_determined (R.Chosen choice kind) p h = record {}
listed_determined (R.Head line table) p h = record {}
listed_determined (R.HeadAndRecords head line) p h = (and_parts (is_line_determined line) _ (and_parts (is_line_determined head) _ h).1).0
listed_determined (R.Hops table) p h = record {}
listed_determined (R.Records line) p h = (and_parts (is_line_determined line) _ h).0

either_determined : (b : Bool) (o : Option (Listed × List ℕ)) → AreDetermined o → AreDetermined (cond b o None)
either_determined true o h = h
either_determined false o h = record {}

pub shown_determined : (level : ℕ) (raw : Raw) (p : List ℕ) → determines_raw raw ≡ true → AreDetermined (shown_list level raw p)
shown_determined level raw p h = either_determined (is_shown level raw p) (listed_in raw p) (listed_determined raw p h)

-- A head, if there is one, is one line, and doesn't begin with a space.
abbrev pub IsHeadLine : Option (List ℕ) → Type 0
IsHeadLine None = ⊤
IsHeadLine (Some s) = IsLine s × Starts s

either_head : (b : Bool) (o : Option (List ℕ)) → IsHeadLine o → IsHeadLine (cond b o None)
either_head true o h = h
either_head false o h = record {}

head_line_of : (raw : Raw) (p : List ℕ) → determines_raw raw ≡ true → IsHeadLine (head_of raw p)
head_line_of (R.Value shown) p h = record {}
head_line_of (R.List table) p h = record {}
head_line_of (R.Chosen choice kind) p h = record {}
head_line_of (R.Head line table) p h = (words_are_line line (take (total_size line.1) p) h, (words_start line (take (total_size line.1) p) h).1)
head_line_of (R.HeadAndRecords head line) p h =
    let d = (and_parts (is_line_determined head) _ h).0 in
    (words_are_line head (take (total_size head.1) p) d, (words_start head (take (total_size head.1) p) d).1)
head_line_of (R.Hops table) p h = record {}
head_line_of (R.Records line) p h = record {}

pub shown_head_line : (level : ℕ) (raw : Raw) (p : List ℕ) → determines_raw raw ≡ true → IsHeadLine (shown_head level raw p)
shown_head_line level raw p h = either_head (is_shown level raw p) (head_of raw p) (head_line_of raw p h)

named_head_line : (level : ℕ) (t : RawTable) (w : List ℕ) (e : Attribute) (o : Option (Named Raw)) → raw_row t e.kind ≡ o → IsHeadLine (named_head level o w e)
named_head_line level t w e None h = record {}
named_head_line level t w e (Some row) h = shown_head_line level (resolved row.1 w) e.payload (held_determined t e.kind row w h)

pub named_determined : (level : ℕ) (t : RawTable) (w : List ℕ) (e : Attribute) (o : Option (Named Raw)) → raw_row t e.kind ≡ o → AreDetermined (named_list level o w e)
named_determined level t w e None h = record {}
named_determined level t w e (Some row) h = shown_determined level (resolved row.1 w) e.payload (held_determined t e.kind row w h)

pub heads_are_lines : (level : ℕ) (o : Option (List ℕ)) → IsHeadLine o → AreLines (head_line level o)
heads_are_lines level None h = record {}
heads_are_lines level (Some s) h = (h, record {})

padding_is_line : (o : Option (List ℕ)) → IsHeadLine (padding_words o)
padding_is_line None = record {}
padding_is_line (Some p) = (lines_joined (codes "padding") (bytes_text p) (is_line_checked (codes "padding") refl) (values_are_lines.line Bytes p refl), omega arith)

pub next_hop_determined : is_line_determined next_hop_line ≡ true
unfolding next_hop_line layout_fields number_texts
next_hop_determined = refl

-- What is known of the lines of a part.
record PartLines (level : ℕ) (listed : Listed) (e : Attribute) : Type 0 where
  text : IsLine (part_text level listed e) × Starts (part_text level listed e)
  head : IsHeadLine (part_head level listed e)
  list : AreDetermined (part_list level listed e)

part_is_lines : (level : ℕ) (listed : Listed) (e : Attribute) → IsDetermined listed → PartLines level listed e
unfolding part_text part_head part_list
part_is_lines level (L.Attributes t w) e h = record { text = text_is_line (level + 1) t w e; head = named_head_line (level + 1) t w e (raw_row t e.kind) refl; list = named_determined (level + 1) t w e (raw_row t e.kind) refl }
part_is_lines level (L.NextHops t) e h =
    let p = take 6 (drop 2 e.payload) in
    record { text = (words_are_line next_hop_line p next_hop_determined, (words_start next_hop_line p next_hop_determined).1); head = record {}; list = record {} }
part_is_lines level (L.Records line) e h = record { text = (words_are_line line e.payload h, (words_start line e.payload h).1); head = record {}; list = record {} }

pub lines_of_both : (a b : List Line) → AreLines a → AreLines b → AreLines (a ++ b)
lines_of_both [] b h k = k
lines_of_both (l ∷ a) b h k = (h.0, lines_of_both a b h.1 k)

-- The lines of lists, computed in at most n steps, are lines.
abbrev AllLines : ℕ → Type 0
AllLines n = (level : ℕ) (listed : Listed) (p : List ℕ) → IsDetermined listed → AreLines (lines_within n level listed p)

inside_are_lines : (n level : ℕ) (o : Option (Listed × List ℕ)) → AllLines n → AreDetermined o → AreLines (lines_inside (λ l m b. lines_within n l m b) level o)
inside_are_lines n level None h d = record {}
inside_are_lines n level (Some x) h d = h level x.0 x.1 d

next_are_lines : (n level : ℕ) (listed : Listed) (bytes : List ℕ) (o : Option (Attribute × List ℕ)) → AllLines n → IsDetermined listed → AreLines (next_lines (λ l m b. lines_within n l m b) level listed bytes o)
next_are_lines n level listed bytes None h d = record {}
next_are_lines n level listed bytes (Some x) h d =
    let f = part_is_lines level listed x.0 d in
    let padding = padding_words (part_padding listed x.0 bytes) in
    let head = part_head level listed x.0 in (
      f.text,
      lines_of_both (head_line (level + 1) padding ++ head_line (level + 1) head) _
          (lines_of_both (head_line (level + 1) padding) (head_line (level + 1) head) (heads_are_lines (level + 1) padding (padding_is_line (part_padding listed x.0 bytes))) (heads_are_lines (level + 1) head f.head))
          (lines_of_both (lines_inside (λ l m b. lines_within n l m b) (level + 1) (part_list level listed x.0)) _ (inside_are_lines n (level + 1) (part_list level listed x.0) h f.list) (h level listed x.1 d)),
    )

within_lines : (n : ℕ) → AllLines n
unfolding lines_within
within_lines zero level listed p d = record {}
within_lines (suc n) level listed p d = next_are_lines n level listed p (first_part listed p) (within_lines n) d

pub listed_are_lines : (level : ℕ) (listed : Listed) (p : List ℕ) → IsDetermined listed → AreLines (listed_lines level listed p)
unfolding listed_lines
listed_are_lines level listed p h = within_lines _ level listed p h

option_lines : (level : ℕ) (o : Option (Listed × List ℕ)) → AreDetermined o → AreLines (inside_lines level o)
option_lines level None h = record {}
option_lines level (Some x) h = listed_are_lines level x.0 x.1 h

pub below_are_lines : (level : ℕ) (o : Option (List ℕ)) (l : Option (Listed × List ℕ)) → IsHeadLine o → AreDetermined l → AreLines (head_line level o ++ inside_lines level l)
below_are_lines level o l h k = lines_of_both (head_line level o) (inside_lines level l) (heads_are_lines level o h) (option_lines level l k)

pub attribute_lines : (level : ℕ) (t : RawTable) (w : List ℕ) (e : Attribute) → AreLines (head_line level (named_head level (raw_row t e.kind) w e) ++ inside_lines level (named_list level (raw_row t e.kind) w e))
attribute_lines level t w e =
    below_are_lines level (named_head level (raw_row t e.kind) w e) (named_list level (raw_row t e.kind) w e) (named_head_line level t w e (raw_row t e.kind) refl) (named_determined level t w e (raw_row t e.kind) refl)
