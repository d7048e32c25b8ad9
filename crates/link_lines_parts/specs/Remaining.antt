-- The lines of a message without some attributes.
use Rattle.std.specs.Prelude.{ℕ, ◌==◌, ◌&&◌, ◌||◌, not, nat_eq, nat_lt, Bool, false, cond, bytes_eq, codes, List, [], ◌∷◌}
use Rattle.std.specs.Prelude.{◌++◌, map, Option, Some, None}
use Rattle.std.specs.List.{list_any, starts_with}
use Rattle.link_lines_parts.specs.declared.remaining.Without.{Without}
use Rattle.link_lines_parts.specs.Lines.{first_word, level, lines_of, words_of}
use Rattle.link_lines_parts.specs.Names.{counter_names, header_names, index_names, is_among}

-- What is left out: attributes with these names; sequence numbers and netlink port IDs; the attributes that count; and
-- indexes of links with numbers of namespaces.
pub record Omitted : Type 0 where
  pub names : List (List ℕ)
  pub numbers : Bool
  pub counters : Bool
  pub indexes : Bool

-- What a value in code leaves out.
abbrev pub omitted_of : Without → Omitted
omitted_of o = record {
  names = map (λ n. n.now) o.names.items;
  numbers = o.numbers;
  counters = o.counters;
  indexes = o.indexes;
}

-- At most numbers are left out.
abbrev pub numbers_omitted : Bool → Omitted
numbers_omitted numbers = record { names = []; numbers = numbers; counters = false; indexes = false }

-- Nothing is left out.
abbrev pub nothing_omitted : Omitted
nothing_omitted = numbers_omitted false

-- ---- attributes

-- Whether attributes with this name are left out.
abbrev pub is_omitted_name : Omitted → List ℕ → Bool
is_omitted_name o name =
    is_among o.names name || ((o.counters && is_among counter_names name) || (o.indexes && is_among index_names name))

-- Whether a line is that of an attribute that is left out. The line of level 0 is the message's own.
abbrev pub is_omitted : Omitted → List ℕ → Bool
is_omitted o line = nat_lt 0 (level line) && is_omitted_name o (first_word line)

-- The level of the omitted attribute that a line begins, if it begins one.
abbrev pub begun_level : Omitted → List ℕ → Option ℕ
begun_level o line = cond (is_omitted o line) (Some (level line)) None

-- The level of the omitted attribute that a line belongs to, if there is one; `before` is that of the line before it.
-- A line belongs to the same attribute as that one if it is deeper than the attribute's own line.
abbrev pub omitted_level : Omitted → Option ℕ → List ℕ → Option ℕ
omitted_level o None line = begun_level o line
omitted_level o (Some attribute) line = cond (nat_lt attribute (level line)) (Some attribute) (begun_level o line)

-- ---- fields of headers

-- Whether a line is that of a header from level 1 on.
abbrev pub is_header : List ℕ → Bool
is_header line = nat_lt 0 (level line) && is_among header_names (first_word line)

-- Whether a word, with the space before it, is the name of the field with a link's index.
abbrev pub is_index_field : List ℕ → Bool
is_index_field word = bytes_eq word (codes " index") || bytes_eq word (codes " ifindex")

-- Whether padding is left out.
abbrev pub omits_padding : Omitted → Bool
omits_padding o = is_among o.names (codes "padding")

-- Whether a word, with the space before it, is the name of a field that is left out.
abbrev pub is_omitted_field : Omitted → List ℕ → Bool
is_omitted_field o word = (o.indexes && is_index_field word) || (bytes_eq word (codes " padding") && omits_padding o)

-- Whether a word, with the space before it, is a field of padding in the record of an attribute, name and value.
abbrev pub is_padding_field : List ℕ → Bool
is_padding_field word = starts_with nat_eq word (codes " padding=")

-- Whether a line has a byte.
abbrev pub has_byte : ℕ → List ℕ → Bool
has_byte byte line = list_any (λ c. c == byte) line

-- Whether a line may have fields of a record, `name=value`, and has no text: texts are in quotes, and may have any words.
abbrev pub is_record_line : List ℕ → Bool
is_record_line line = has_byte 61 line && not (has_byte 34 line)

-- The text of words without fields of padding in the record of an attribute.
abbrev pub without_padding : List (List ℕ) → List ℕ
without_padding [] = []
without_padding (word ∷ words) = cond (is_padding_field word) [] word ++ without_padding words

-- The text of words without the fields that are left out, name and value; `after_name` says whether the first word is
-- the value of one.
abbrev pub without_fields : Omitted → Bool → List (List ℕ) → List ℕ
without_fields o after_name [] = []
without_fields o after_name (word ∷ words) =
    cond (after_name || is_omitted_field o word) [] word ++ without_fields o (is_omitted_field o word) words

-- ---- lines

-- A line that isn't left out: of a header perhaps without its index and its padding, of the record of an attribute
-- perhaps without its padding.
abbrev pub remaining_line : Omitted → List ℕ → List ℕ
remaining_line o line =
    cond ((o.indexes || omits_padding o) && is_header line) (without_fields o false (words_of line))
    (cond (omits_padding o && is_record_line line) (without_padding (words_of line)) line)

-- What remains of a line, given the level of the omitted attribute that it belongs to, if there is one.
abbrev pub line_text : Omitted → Option ℕ → List ℕ → List ℕ
line_text o None line = remaining_line o line
line_text o (Some attribute) line = []

-- What remains of lines; `before` is the level of the omitted attribute that the line before them belongs to, if there
-- is one.
abbrev pub remaining_after : Omitted → Option ℕ → List (List ℕ) → List ℕ
remaining_after o before [] = []
remaining_after o before (line ∷ lines) =
    line_text o (omitted_level o before line) line ++ remaining_after o (omitted_level o before line) lines

-- What remains of the lines of a message. Numbers are left out where a line is written, and not here.
abbrev pub remaining_lines : Omitted → List ℕ → List ℕ
remaining_lines o text = remaining_after o None (lines_of text)
