-- Lines of padding are determined, and no other line is one.
use Rattle.std.proofs.Common.{◌≡◌, ℕ, ◌+◌, Bool, true, false, cond, List, [], ◌∷◌, ◌++◌, drop, get_or, Option, Some, None, refl, sym, ap, subst, ◌∙◌, arith}
use Rattle.std.specs.Prelude.{⊤, codes}
use Rattle.std.proofs.lemmas.Bool.{and_parts, true≢false}
use Rattle.std.proofs.lemmas.Slice.Eq.{bytes_eq-Decides}
use Rattle.netlink_packet_core_grammar.specs.Attributes.{Attribute}
use Rattle.link_lines_values.specs.Bytes.{bytes_text}
use Rattle.link_lines_values.specs.Laws.{BeginsWithSpace}
use Rattle.link_lines_values.specs.Records.{fields_text}
use Rattle.link_lines_values.proofs.BytesDetermined.{bytes_determined}
use Rattle.link_lines_raw.specs.declared.lists.ListedBy.TheVariants as L
use Rattle.link_lines_raw.specs.declared.raw_tables.RawTable.{RawTable}
use Rattle.link_lines_raw.specs.declared.rows.RawBy.TheVariants as R
use Rattle.link_lines_raw.specs.Attributes.{after_name, is_shown, named_text, nested_word, next_hop_line, raw_row, raw_text, record_words}
use Rattle.link_lines_raw.specs.Coverage.{determines_raw, is_line_determined}
use Rattle.link_lines_raw.specs.Choices.{resolved}
use Rattle.link_lines_raw.specs.Lines.{Line}
use Rattle.link_lines_raw.specs.Lists.{Listed, first_part, head_line, head_of, inside_lines, listed_lines, named_head, named_list, padding_text, padding_words, part_text}
use Rattle.link_lines_raw.specs.Names.{Named}
use Rattle.link_lines_raw.specs.Rows.{Raw, RecordLine}
use Rattle.link_lines_raw.proofs.ListLines.{AreDetermined, IsDetermined, named_determined, next_hop_determined, words_end, words_start}
use Rattle.link_lines_raw.proofs.Payloads.{line_facts}
use Rattle.link_lines_raw.proofs.RawRows.{held_determined, row_facts}
use Rattle.link_lines_raw.proofs.Unfolding.{next, none}
use Rattle.link_lines_raw.proofs.Whole.{IsPaddingOfBytes}
use Rattle.link_lines_raw.proofs.Words.{cut_word, message_label, not_lower, space_ends}

-- A text isn't a line of padding.
abbrev IsApart : List ℕ → Type 0
IsApart s = (r : List ℕ) → BeginsWithSpace r → s ≡ codes "padding" ++ r → ⊥

abbrev IsHeadApart : Option (List ℕ) → Type 0
IsHeadApart None = ⊤
IsHeadApart (Some s) = IsApart s

-- The first line, if any, isn't one of padding.
abbrev pub BeginsApart : List Line → Type 0
BeginsApart [] = ⊤
BeginsApart (l ∷ ls) = IsApart l.1

-- ---- records

words_apart : (line : RecordLine) (p : List ℕ) → is_line_determined line ≡ true → IsApart (record_words line p)
words_apart line p d r h e =
    let f = line_facts line d in
    let same = (cut_word line.0 (codes "padding") (fields_text 32 false line.1 p) r (words_start line [] d).0 (message_label (codes "padding") refl) (words_end line p) (space_ends r h) e).0 in
    true≢false (sym ((bytes_eq-Decides line.0 (codes "padding")).1 same) ∙ f.unpadded)

-- ---- attributes

named_apart : (level : ℕ) (t : RawTable) (w : List ℕ) (e : Attribute) (o : Option (Named Raw)) → raw_row t e.kind ≡ o → IsApart (named_text level o w e)
named_apart level t w e None h r space same = let first : ◌≡◌ {A = ℕ} 107 112 = ap (λ l. get_or l 0 0) same in omega arith
named_apart level t w e (Some row) h r space same =
    let f = row_facts t e.kind row h in
    not_lower 112 row.0 (nested_word e.kind ++ after_name level (resolved row.1 w) e.payload) _ (omega arith) f.starts f.upper same

text_apart : (level : ℕ) (t : RawTable) (w : List ℕ) (e : Attribute) → IsApart (raw_text level t w e)
unfolding raw_text
text_apart level t w e = named_apart level t w e (raw_row t e.kind) refl

-- ---- lists

part_apart : (level : ℕ) (listed : Listed) (e : Attribute) → IsDetermined listed → IsApart (part_text level listed e)
unfolding part_text
part_apart level (L.Attributes t w) e d = text_apart (level + 1) t w e
part_apart level (L.NextHops t) e d = words_apart next_hop_line _ next_hop_determined
part_apart level (L.Records line) e d = words_apart line e.payload d

listed_by : (level : ℕ) (listed : Listed) (p : List ℕ) (o : Option (Attribute × List ℕ)) → first_part listed p ≡ o → IsDetermined listed → BeginsApart (listed_lines level listed p)
listed_by level listed p None h d = subst BeginsApart (sym (none level listed p h)) (record {})
listed_by level listed p (Some x) h d = subst BeginsApart (sym (next level listed p x.0 x.1 h)) (part_apart level listed x.0 d)

begins_by : (level : ℕ) (o : Option (List ℕ)) (l : Option (Listed × List ℕ)) → IsHeadApart o → AreDetermined l → BeginsApart (head_line level o ++ inside_lines level l)
begins_by level (Some s) l h d = h
begins_by level None None h d = record {}
begins_by level None (Some x) h d = listed_by level x.0 x.1 (first_part x.0 x.1) refl d

head_apart : (raw : Raw) (p : List ℕ) → determines_raw raw ≡ true → IsHeadApart (head_of raw p)
head_apart (R.Head line table) p d = words_apart line _ d
head_apart (R.HeadAndRecords head line) p d = words_apart head _ (and_parts (is_line_determined head) _ d).0
head_apart raw p d = record {}

either_apart : (b : Bool) (o : Option (List ℕ)) → IsHeadApart o → IsHeadApart (cond b o None)
either_apart true o h = h
either_apart false o h = record {}

named_head_apart : (level : ℕ) (t : RawTable) (w : List ℕ) (e : Attribute) (o : Option (Named Raw)) → raw_row t e.kind ≡ o → IsHeadApart (named_head level o w e)
named_head_apart level t w e None h = record {}
named_head_apart level t w e (Some row) h = either_apart (is_shown level (resolved row.1 w) e.payload) (head_of (resolved row.1 w) e.payload) (head_apart (resolved row.1 w) e.payload (held_determined t e.kind row w h))

-- The lines of what an attribute holds don't begin with a line of padding.
pub held_apart : (level : ℕ) (t : RawTable) (w : List ℕ) (e : Attribute) → BeginsApart (head_line level (named_head level (raw_row t e.kind) w e) ++ inside_lines level (named_list level (raw_row t e.kind) w e))
held_apart level t w e =
    begins_by level (named_head level (raw_row t e.kind) w e) (named_list level (raw_row t e.kind) w e) (named_head_apart level t w e (raw_row t e.kind) refl) (named_determined level t w e (raw_row t e.kind) refl)

-- ---- lines of padding

text_space : (p : List ℕ) → BeginsWithSpace (bytes_text p)
text_space [] = record {}
text_space (b ∷ p) = refl

not_first : (level : ℕ) (p : List ℕ) (a b : List Line) → BeginsApart a → a ≡ (level, padding_text p) ∷ b → ⊥
not_first level p [] b h e = cc
not_first level p (l ∷ a) b h e = let first : l ≡ (level, padding_text p) = cc in h (bytes_text p) (text_space p) (ap (λ x. x.1) first)

-- A line of padding, or that there is none, is determined, and so are the lines after it.
pub paddings_determined : (level : ℕ) (x y : Option (List ℕ)) (a b : List Line) → IsPaddingOfBytes x → IsPaddingOfBytes y → BeginsApart a → BeginsApart b → head_line level (padding_words x) ++ a ≡ head_line level (padding_words y) ++ b → (x ≡ y) × (a ≡ b)
paddings_determined level None None a b i j h k e = (refl, e)
paddings_determined level None (Some q) a b i j h k e = absurd (not_first level q a b h e)
paddings_determined level (Some p) None a b i j h k e = absurd (not_first level p b a k (sym e))
paddings_determined level (Some p) (Some q) a b i j h k e =
    let first : ◌≡◌ {A = Line} (level, padding_text p) (level, padding_text q) = cc in
    let text : padding_text p ≡ padding_text q = ap (λ x. x.1) first in
    (ap (λ z. Some z) (bytes_determined.bytes p q i j (ap (drop 7) text)), ap (drop 1) e)
