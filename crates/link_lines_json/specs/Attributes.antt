-- The entries of lists of attributes as JSON.
use Rattle.std.specs.Prelude.{ℕ, ◌&&◌, nat_le, Bool, true, false, cond, List, [], ◌∷◌, ◌++◌, codes, flat_map}
use Rattle.std.specs.Prelude.{bytes_eq, not, Some, None}
use Rattle.std.specs.Fmt.{decimal}
use Rattle.link_lines_json.specs.Names.{bytes_names, number_list_names}
use Rattle.link_lines_parts.specs.Names.{is_among}
use Rattle.link_lines_json.specs.Strings.{escaped, string}
use Rattle.link_lines_json.specs.Tokens.{TermText}
use Rattle.link_lines_json.specs.Values.{are_numbers, assignments_json, elements_json, fields_json, hex_value, is_assignment}
use Rattle.link_lines_json.specs.Values.{key, members_json, next_key, set_json, word_json}

-- The word of the first term, if there is one.
abbrev pub first_of : List TermText → List ℕ
first_of [] = []
first_of (term ∷ terms) = term.0

-- ---- several words

-- A term as a line has it.
abbrev pub term_words : TermText → List ℕ
term_words (word, None) = word
term_words (word, Some names) = word ++ (32 ∷ (names ++ 41 ∷ []))

-- A space between terms.
abbrev pub space : Bool → List ℕ
space true = 32 ∷ []
space false = []

-- The bytes of a string of terms.
abbrev pub joined : Bool → List TermText → List ℕ
joined after [] = []
joined after (term ∷ terms) = (space after ++ flat_map escaped (term_words term)) ++ joined true terms

-- The string of terms.
unfoldable pub terms_string : List TermText → List ℕ
terms_string terms = 34 ∷ (joined false terms ++ 34 ∷ [])

-- Terms as elements of a list.
unfoldable pub list_json : List TermText → List ℕ
list_json terms = 91 ∷ (elements_json false terms ++ 93 ∷ [])

-- Several terms: a list of numbers, or a string.
unfoldable pub several_json : List TermText → List ℕ
several_json terms = cond (are_numbers terms) (list_json terms) (terms_string terms)

-- ---- payloads

-- The mask of a set's bits, which are the terms after `mask`.
unfoldable pub mask_json : List TermText → List ℕ
mask_json [] = []
mask_json (mask ∷ terms) = codes ", " ++ set_json (codes "mask") (codes "mask_flags") mask

-- A value with a mask, or alone, or one of several.
unfoldable pub value_or_several : Bool → TermText → List TermText → List ℕ
value_or_several is_bytes term [] = members_json is_bytes term
value_or_several is_bytes term (next ∷ terms) =
    cond (bytes_eq next.0 (codes "mask")) (members_json is_bytes term ++ mask_json terms)
    (key (codes "value") ++ several_json (term ∷ next ∷ terms))

-- The fields of a record.
unfoldable pub record_json : List TermText → List ℕ
record_json terms = key (codes "value") ++ (123 ∷ (assignments_json false terms ++ 125 ∷ []))

-- The fields of a record after the number of them.
unfoldable pub counted_json : List TermText → List ℕ
counted_json [] = []
counted_json (count ∷ terms) = key (codes "fields") ++ (word_json false count.0 ++ (codes ", " ++ record_json terms))

-- The payload of an attribute of this name, whose first term is given.
unfoldable pub first_payload : List ℕ → TermText → List TermText → List ℕ
first_payload name term terms =
    cond (bytes_eq term.0 (codes "bytes")) (key (codes "bytes") ++ string (first_of terms))
    (cond (bytes_eq term.0 (codes "fields")) (counted_json terms)
    (cond (is_assignment term.0) (record_json (term ∷ terms))
    (cond (is_among number_list_names name) (key (codes "value") ++ list_json (term ∷ terms))
    (value_or_several (is_among bytes_names name) term terms))))

-- The payload of an attribute of this name, if it has one.
unfoldable pub payload_json : List ℕ → List TermText → List ℕ
payload_json name [] = []
payload_json name (term ∷ terms) = codes ", " ++ first_payload name term terms

-- ---- entries

-- The payload of an attribute with the nested bit.
unfoldable pub nested_payload : List ℕ → List TermText → List ℕ
nested_payload name terms = next_key (codes "nested_bit") ++ (codes "true" ++ payload_json name terms)

-- The nested bit and the payload.
unfoldable pub nested_and_payload : List ℕ → List TermText → List ℕ
nested_and_payload name [] = []
nested_and_payload name (term ∷ terms) =
    cond (bytes_eq term.0 (codes "nested")) (nested_payload name terms) (payload_json name (term ∷ terms))

-- An attribute with a name.
unfoldable pub attribute_json : List ℕ → List TermText → List ℕ
attribute_json name terms = key (codes "name") ++ (string name ++ nested_and_payload name terms)

-- An attribute of a kind without a name, and its payload's bytes.
unfoldable pub kind_json : List TermText → List ℕ
kind_json [] = []
kind_json (kind ∷ terms) =
    key (codes "kind") ++ (decimal (hex_value kind.0) ++ (next_key (codes "value") ++ string (first_of terms)))

-- Whether a word names a struct, or what else isn't an attribute; names of attributes are in upper case, or `[3]`.
abbrev pub is_lower : List ℕ → Bool
is_lower [] = false
is_lower (c ∷ word) = nat_le 97 c && nat_le c 122

-- Whether a word names a struct among attributes: it is in lower case, and isn't that of a line of padding.
abbrev pub is_struct : List ℕ → Bool
is_struct word = is_lower word && not (bytes_eq word (codes "padding"))

-- A struct among attributes.
unfoldable pub struct_json : List ℕ → List TermText → List ℕ
struct_json name terms =
    key (codes "struct") ++ (string name ++ (next_key (codes "fields") ++ (123 ∷ (fields_json false terms ++ 125 ∷ []))))

-- The members of an entry of a list of attributes.
unfoldable pub entry_json : List ℕ → List TermText → List ℕ
entry_json word terms =
    cond (bytes_eq word (codes "kind")) (kind_json terms)
    (cond (is_struct word) (struct_json word terms) (attribute_json word terms))
