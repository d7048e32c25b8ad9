-- What follows a name, and the lines below it, determine a payload, provided that lines determine shorter lists.
use Rattle.std.proofs.Common.{◌≡◌, ℕ, ◌+◌, ◌<◌, Bool, true, false, cond, List, [], ◌∷◌, ◌++◌, length, take, drop, get_or, None, refl, sym, ap, ◌∙◌, arith}
use Rattle.std.specs.Prelude.{not, nat_le, bytes_eq, codes}
use Rattle.std.proofs.lemmas.Bool.{and_parts, not-true, true≢false}
use Rattle.std.proofs.lemmas.List.{append_cancel_left, length-drop}
use Rattle.netlink_packet_core_grammar.specs.Bytes.{AreBytes}
use Rattle.netlink_packet_core_grammar.proofs.Bytes.{AreBytes-drop, AreBytes-take}
use Rattle.link_lines_values.specs.Bytes.{bytes_text}
use Rattle.link_lines_values.specs.Laws.{BeginsWithSpace, IsLine}
use Rattle.link_lines_values.specs.Records.{fields_determine, has_no_booleans, is_record, total_size}
use Rattle.link_lines_values.specs.declared.values.ShownBy.TheVariants.{Bytes}
use Rattle.link_lines_values.proofs.BytesDetermined.{bytes_determined}
use Rattle.link_lines_values.proofs.ExactDetermined.{raw_values_determined}
use Rattle.link_lines_values.proofs.OneLine.{is_line_checked, lines_joined, values_are_lines}
use Rattle.link_lines_values.proofs.RecordsDetermined.{plain_determined}
use Rattle.link_lines_values.proofs.ValuesDetermined.{both_parts}
use Rattle.link_lines_values.specs.Values.{are_fields_on_a_line}
use Rattle.link_lines_raw.specs.declared.lists.ListedBy.TheVariants as L
use Rattle.link_lines_raw.specs.declared.raw_tables.RawTable.{RawTable}
use Rattle.link_lines_raw.specs.declared.rows.RawBy.TheVariants as R
use Rattle.link_lines_raw.specs.Attributes.{after_name, are_next_hops_after, are_records_after, holds_lines, is_headed, is_shown, is_whole, levels_below, plain_bytes, record_words}
use Rattle.link_lines_parts.specs.Levels.{deepest_level}
use Rattle.link_lines_raw.specs.Coverage.{are_lines_determined, determines_raw, is_line_determined, is_line_word}
use Rattle.link_lines_raw.specs.Lines.{Line}
use Rattle.link_lines_raw.specs.Lists.{head_line, head_of, inside_lines, listed_in, listed_lines, shown_head, shown_list}
use Rattle.link_lines_raw.specs.Rows.{Raw, RecordLine}
use Rattle.link_lines_raw.proofs.Spans.{first_text}

-- ---- the text after a name

plain_space : (p : List ℕ) → BeginsWithSpace (plain_bytes p)
plain_space p = refl

plain_line : (p : List ℕ) → IsLine (plain_bytes p)
plain_line p = lines_joined (codes " bytes") (bytes_text p) (is_line_checked (codes " bytes") refl) (values_are_lines.line Bytes p refl)

either_space : (b : Bool) (p : List ℕ) → BeginsWithSpace (cond b [] (plain_bytes p))
either_space true p = record {}
either_space false p = plain_space p

either_line : (b : Bool) (p : List ℕ) → IsLine (cond b [] (plain_bytes p))
either_line true p = record {}
either_line false p = plain_line p

pub name_space : (level : ℕ) (raw : Raw) (p : List ℕ) → BeginsWithSpace (after_name level raw p)
unfolding after_name
name_space level (R.Value shown) p = raw_values_determined.space shown p
name_space level (R.List table) p = either_space _ p
name_space level (R.Chosen choice kind) p = either_space _ p
name_space level (R.Head line table) p = either_space _ p
name_space level (R.HeadAndRecords head line) p = either_space _ p
name_space level (R.Hops table) p = either_space _ p
name_space level (R.Records line) p = either_space _ p

pub name_line : (level : ℕ) (raw : Raw) (p : List ℕ) → determines_raw raw ≡ true → IsLine (after_name level raw p)
unfolding after_name
name_line level (R.Value shown) p h = raw_values_determined.line shown p h
name_line level (R.List table) p h = either_line _ p
name_line level (R.Chosen choice kind) p h = either_line _ p
name_line level (R.Head line table) p h = either_line _ p
name_line level (R.HeadAndRecords head line) p h = either_line _ p
name_line level (R.Hops table) p h = either_line _ p
name_line level (R.Records line) p h = either_line _ p

-- No text after a name begins with the word ` nested`.
not_plain : (b : Bool) (p s : List ℕ) → cond b [] (plain_bytes p) ≡ codes " nested" ++ s → ⊥
not_plain true p s e = absurd cc
not_plain false p s e = let second : ◌≡◌ {A = ℕ} 98 110 = ap (λ l. get_or l 1 0) e in omega arith

pub unnested : (level : ℕ) (raw : Raw) (p s : List ℕ) → determines_raw raw ≡ true → AreBytes p → BeginsWithSpace s → after_name level raw p ≡ codes " nested" ++ s → ⊥
unfolding after_name
unnested level (R.Value shown) p s h a b e = raw_values_determined.unnested shown p s h a b e
unnested level (R.List table) p s h a b e = not_plain _ p s e
unnested level (R.Chosen choice kind) p s h a b e = not_plain _ p s e
unnested level (R.Head line table) p s h a b e = not_plain _ p s e
unnested level (R.HeadAndRecords head line) p s h a b e = not_plain _ p s e
unnested level (R.Hops table) p s h a b e = not_plain _ p s e
unnested level (R.Records line) p s h a b e = not_plain _ p s e

-- ---- records with a line of their own

pub record LineFacts (line : RecordLine) : Type 0 where
  pub word : is_line_word line.0 ≡ true
  pub fields : fields_determine 32 line.1 ≡ true
  pub booleans : has_no_booleans line.1 ≡ true
  pub lines : are_fields_on_a_line line.1 ≡ true
  pub unpadded : bytes_eq line.0 (codes "padding") ≡ false

pub line_facts : (line : RecordLine) → is_line_determined line ≡ true → LineFacts line
line_facts line h =
    let a = and_parts (is_line_word line.0) _ h in
    let b = and_parts (fields_determine 32 line.1) _ a.1 in
    let c = and_parts (has_no_booleans line.1) _ b.1 in
    let d = and_parts (are_fields_on_a_line line.1) (not (bytes_eq line.0 (codes "padding"))) c.1 in
    record { word = a.0; fields = b.0; booleans = c.0; lines = d.0; unpadded = not-true (bytes_eq line.0 (codes "padding")) d.1 }

-- The words of a record determine it.
pub words_determined : (line : RecordLine) (p q : List ℕ) → is_line_determined line ≡ true → AreBytes p → AreBytes q → is_record line.1 p ≡ true → is_record line.1 q ≡ true → record_words line p ≡ record_words line q → p ≡ q
words_determined line p q h a b i j e =
    let f = line_facts line h in
    plain_determined 32 line.1 p q f.fields f.booleans a b i j (append_cancel_left line.0 _ _ e)

-- ---- lists that are shorter

-- The lines of whole lists that are shorter determine them.
abbrev pub ShorterDetermined : ℕ → Type 0
ShorterDetermined n = (level : ℕ) (t : RawTable) (p q : List ℕ) → length p < n → AreBytes p → AreBytes q → is_whole p ≡ true → is_whole q ≡ true →
    listed_lines level (L.Attributes t p) p ≡ listed_lines level (L.Attributes t q) q → p ≡ q

-- The lines of next hops and of records determine them.
abbrev pub HopsDetermined : ℕ → Type 0
HopsDetermined n = (level : ℕ) (t : RawTable) (p q : List ℕ) → length p < n → AreBytes p → AreBytes q → are_next_hops_after 0 p ≡ true → are_next_hops_after 0 q ≡ true →
    listed_lines level (L.NextHops t) p ≡ listed_lines level (L.NextHops t) q → p ≡ q

abbrev pub RecordsDetermined : Type 0
RecordsDetermined = (level : ℕ) (line : RecordLine) (p q : List ℕ) → determines_raw (R.Records line) ≡ true → AreBytes p → AreBytes q → are_records_after line.1 0 p ≡ true → are_records_after line.1 0 q ≡ true →
    listed_lines level (L.Records line) p ≡ listed_lines level (L.Records line) q → p ≡ q

-- ---- payloads

-- The lines below an attribute's line.
abbrev pub below : ℕ → Raw → List ℕ → List Line
below level raw p = head_line level (shown_head level raw p) ++ inside_lines level (shown_list level raw p)

-- The lines of a payload that is shown in lines.
abbrev inside : ℕ → Raw → List ℕ → List Line
inside level raw p = head_line level (head_of raw p) ++ inside_lines level (listed_in raw p)

below_is : (level : ℕ) (raw : Raw) (p : List ℕ) → is_shown level raw p ≡ true → below level raw p ≡ inside level raw p
below_is level raw p h = ap (λ b. head_line level (cond b (head_of raw p) None) ++ inside_lines level (cond b (listed_in raw p) None)) h

either_by : (b c : Bool) (p q : List ℕ) → AreBytes p → AreBytes q → (b ≡ true → c ≡ true → p ≡ q) → cond b [] (plain_bytes p) ≡ cond c [] (plain_bytes q) → p ≡ q
either_by true true p q a d h e = h refl refl
either_by true false p q a d h e = absurd cc
either_by false true p q a d h e = absurd cc
either_by false false p q a d h e = bytes_determined.bytes p q a d (ap (drop 6) e)

-- What follows the name of a payload that may be shown in lines.
either : (raw : Raw) (level : ℕ) (p q : List ℕ) → AreBytes p → AreBytes q → (holds_lines raw p ≡ true → holds_lines raw q ≡ true → inside level raw p ≡ inside level raw q → p ≡ q) →
    cond (is_shown level raw p) [] (plain_bytes p) ≡ cond (is_shown level raw q) [] (plain_bytes q) → below level raw p ≡ below level raw q → p ≡ q
either raw level p q a b h e under =
    let in_reach = nat_le (level + levels_below raw) deepest_level in
    either_by (is_shown level raw p) (is_shown level raw q) p q a b
    (λ i j. h (and_parts in_reach _ i).1 (and_parts in_reach _ j).1 (sym (below_is level raw p i) ∙ under ∙ below_is level raw q j)) e

-- A record at the start and what follows it are determined by the record's line and the lines of what follows.
headed : (level : ℕ) (line : RecordLine) (test : List ℕ → Bool) (lines : List ℕ → List Line) (p q : List ℕ) → is_line_determined line ≡ true → AreBytes p → AreBytes q → is_headed test line p ≡ true → is_headed test line q ≡ true →
    (test (drop (total_size line.1) p) ≡ true → test (drop (total_size line.1) q) ≡ true → lines (drop (total_size line.1) p) ≡ lines (drop (total_size line.1) q) → drop (total_size line.1) p ≡ drop (total_size line.1) q) →
    (level, record_words line (take (total_size line.1) p)) ∷ lines (drop (total_size line.1) p) ≡ (level, record_words line (take (total_size line.1) q)) ∷ lines (drop (total_size line.1) q) → p ≡ q
headed level line test lines p q d a b h i rest e =
    let m = total_size line.1 in
    let x = and_parts (nat_le m (length p)) _ h in
    let y = and_parts (nat_le m (length q)) _ i in
    let r = and_parts (is_record line.1 (take m p)) (test (drop m p)) x.1 in
    let s = and_parts (is_record line.1 (take m q)) (test (drop m q)) y.1 in
    let words : record_words line (take m p) ≡ record_words line (take m q) = ap first_text e in
    both_parts m p q (words_determined line (take m p) (take m q) d (AreBytes-take m p a) (AreBytes-take m q b) r.0 s.0 words)
    (rest r.1 s.1 (ap (drop 1) e))

module _ (n : ℕ) (lists : ShorterDetermined n) (hops : HopsDetermined n) (records : RecordsDetermined) where
  pub payload_determined : (level : ℕ) (raw : Raw) (p q : List ℕ) → determines_raw raw ≡ true → length p < n → AreBytes p → AreBytes q → after_name level raw p ≡ after_name level raw q → below level raw p ≡ below level raw q → p ≡ q
  unfolding after_name
  payload_determined level (R.Value shown) p q d l a b e under = raw_values_determined.determined shown p q d a b e
  payload_determined level (R.List table) p q d l a b e under = either (R.List table) level p q a b (λ i j u. lists level table p q l a b i j u) e under
  payload_determined level (R.Chosen choice kind) p q d l a b e under = either (R.Chosen choice kind) level p q a b (λ i j u. absurd (true≢false (sym i))) e under
  payload_determined level (R.Head line table) p q d l a b e under =
      let m = total_size line.1 in
      either (R.Head line table) level p q a b
      (λ i j u. headed level line is_whole (λ x. listed_lines level (L.Attributes table x) x) p q d a b i j
      (λ k o v. lists level table (drop m p) (drop m q) (omega (arith, length-drop m p, l)) (AreBytes-drop m p a) (AreBytes-drop m q b) k o v) u) e under
  payload_determined level (R.HeadAndRecords head line) p q d l a b e under =
      let m = total_size head.1 in
      let parts = and_parts (is_line_determined head) (are_lines_determined line) d in
      either (R.HeadAndRecords head line) level p q a b
      (λ i j u. headed level head (are_records_after line.1 0) (λ x. listed_lines level (L.Records line) x) p q parts.0 a b i j
      (λ k o v. records level line (drop m p) (drop m q) parts.1 (AreBytes-drop m p a) (AreBytes-drop m q b) k o v) u) e under
  payload_determined level (R.Hops table) p q d l a b e under = either (R.Hops table) level p q a b (λ i j u. hops level table p q l a b i j u) e under
  payload_determined level (R.Records line) p q d l a b e under = either (R.Records line) level p q a b (λ i j u. records level line p q d a b i j u) e under
