-- A message's lines as an object of JSON.
use Rattle.std.specs.Prelude.{ℕ, zero, suc, ◌+◌, ◌-◌, ◌==◌, ◌&&◌, ◌||◌, nat_lt, max, Bool, true, false, not, cond, List, [], ◌∷◌, ◌++◌, codes}
use Rattle.std.specs.Prelude.{None, bytes_eq}
use Rattle.link_lines_json.specs.Attributes.{entry_json, first_of, is_lower, terms_string}
use Rattle.link_lines_parts.specs.Lines.{after_first_word, first_word, level, lines_of, without_newline}
use Rattle.link_lines_json.specs.Strings.{string}
use Rattle.link_lines_json.specs.Tokens.{TermText, terms}
use Rattle.link_lines_json.specs.Values.{field_json, fields_json, is_number, key, next_key, word_json}

-- ---- lines

-- The terms of a line after its first word.
abbrev pub line_terms : List ℕ → List TermText
line_terms line = terms (without_newline (after_first_word line))

-- ---- members of a message

-- The number of a message type without a name, and the fields after it.
unfoldable pub numbered_json : List TermText → List ℕ
numbered_json [] = key (codes "type") ++ codes "null"
numbered_json (number ∷ terms) = key (codes "type") ++ (word_json false number.0 ++ fields_json true terms)

-- The type of a message, by its name or number, and the fields after it.
unfoldable pub typed_json : List ℕ → List TermText → List ℕ
typed_json word terms =
    cond (bytes_eq word (codes "type")) (numbered_json terms) (key (codes "type") ++ (string word ++ fields_json true terms))

-- A request's header of a size, and what a message's line has.
unfoldable pub sized_json : List ℕ → List ℕ → List TermText → List ℕ
sized_json size word terms =
    123 ∷ (key (codes "length") ++ (word_json false size ++ (codes ", " ++ (typed_json word terms ++ 125 ∷ []))))

-- The header of a request that an error repeats: `length N` before what a message's line has.
unfoldable pub request_json : List TermText → List ℕ
request_json [] = codes "{}"
request_json (name ∷ []) = codes "{}"
request_json (name ∷ size ∷ []) = codes "{}"
request_json (name ∷ size ∷ word ∷ terms) = sized_json size.0 word.0 terms

-- A struct with its fields.
unfoldable pub struct_object : List ℕ → List TermText → List ℕ
struct_object word terms = 123 ∷ (key (codes "struct") ++ (string word ++ (fields_json true terms ++ 125 ∷ [])))

-- The header of a message's body.
unfoldable pub header_json : List ℕ → List TermText → List ℕ
header_json word terms = key (codes "header") ++ struct_object word terms

-- The code of an NLMSG_ERROR or NLMSG_DONE, as a field.
unfoldable pub code_json : List TermText → List ℕ
code_json [] = key (codes "code") ++ codes "null"
code_json (code ∷ terms) = field_json (codes "code", None) code

-- The member that a line is.
unfoldable pub member_json : List ℕ → List TermText → List ℕ
member_json word terms =
    cond (bytes_eq word (codes "body") || bytes_eq word (codes "rest")) (key word ++ string (first_of terms))
    (cond (bytes_eq word (codes "code")) (code_json terms)
    (cond (bytes_eq word (codes "refused:")) (key (codes "refused") ++ terms_string terms)
    (cond (bytes_eq word (codes "request")) (key (codes "request") ++ request_json terms) (header_json word terms))))

-- ---- lists

-- The ends of nested lists and of the entries that have them.
abbrev pub closing : ℕ → List ℕ
closing zero = []
closing (suc n) = codes "]}" ++ closing n

-- The end of the last entry, and of what is open below a depth; or the start of a list in that entry.
abbrev pub next_entry : ℕ → ℕ → List ℕ
next_entry lists depth = cond (nat_lt lists depth) (next_key (codes "nested") ++ codes "[{") (125 ∷ (closing (lists - depth) ++ codes ", {"))

-- The start of an entry at a depth, given how many lists are open.
abbrev pub opening : ℕ → ℕ → List ℕ
opening zero depth = next_key (codes "attributes") ++ codes "[{"
opening (suc n) depth = next_entry (suc n) depth

-- The end of a message, given how many lists are open.
abbrev pub ending : ℕ → List ℕ
ending zero = next_key (codes "attributes") ++ (codes "[]}" ++ 10 ∷ [])
ending (suc n) = 125 ∷ (closing n ++ (codes "]}" ++ 10 ∷ []))

-- The depth of an entry, whose line has a level, in lists: at most one more than there are.
abbrev pub entry_depth : ℕ → ℕ → ℕ
entry_depth lists level = cond (nat_lt lists level) (lists + 1) (max 1 level)

-- ---- messages

-- Whether a line with this first word is a member of the message, and not an entry of its list of attributes.
unfoldable pub is_member : ℕ → List ℕ → Bool
is_member lists word = (lists == 0) && (is_lower word && not (bytes_eq word (codes "kind")))

-- The number of lists that are open after a line.
abbrev pub open_after : ℕ → List ℕ → ℕ
open_after lists line = cond (is_member lists (first_word line)) 0 (entry_depth lists (level line))

-- A line, given how many lists the lines before it left open.
unfoldable pub line_json : ℕ → List ℕ → List ℕ
line_json lists line =
    cond (is_member lists (first_word line)) (codes ", " ++ member_json (first_word line) (line_terms line))
    (opening lists (entry_depth lists (level line)) ++ entry_json (first_word line) (line_terms line))

-- The lines after the first one, and the end of the message.
abbrev pub lines_json : ℕ → List (List ℕ) → List ℕ
lines_json lists [] = ending lists
lines_json lists (line ∷ lines) = line_json lists line ++ lines_json (open_after lists line) lines

-- Whether a line is that of an attribute RTA_TABLE of the message, not of one nested in another.
abbrev pub is_table : List ℕ → Bool
is_table line = (level line == 1) && bytes_eq (first_word line) (codes "RTA_TABLE")

-- The terms of the first such line, if there is one.
abbrev pub table_terms : List (List ℕ) → List TermText
table_terms [] = []
table_terms (line ∷ lines) = cond (is_table line) (line_terms line) (table_terms lines)

-- The table of these terms, as a member, if the first one is a number.
unfoldable pub table_json : List TermText → List ℕ
table_json [] = []
table_json (table ∷ terms) = cond (is_number table.0) (codes ", " ++ field_json (codes "table", None) table) []

-- The table of a route, of which the header has 8 bits, as RTA_TABLE has it.
unfoldable pub route_table_json : List (List ℕ) → List ℕ
route_table_json [] = []
route_table_json (line ∷ lines) = cond (bytes_eq (first_word line) (codes "rtmsg")) (table_json (table_terms lines)) []

-- The object of a message with these lines; nothing without a line.
abbrev pub object : List (List ℕ) → List ℕ
object [] = []
object (line ∷ lines) =
    123 ∷ (typed_json (first_word line) (line_terms line) ++ (route_table_json lines ++ lines_json 0 lines))

-- The lines of a message as an object of JSON (RFC 8259) in a line of its own.
unfoldable pub json : List ℕ → List ℕ
json text = object (lines_of text)
