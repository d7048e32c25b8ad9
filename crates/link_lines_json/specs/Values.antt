-- Values and fields of lines as JSON.
use Rattle.std.specs.Prelude.{ℕ, ◌+◌, ◌-◌, ◌*◌, ◌%◌, ◌^◌, ◌==◌, ◌||◌, ◌&&◌, nat_le, nat_lt, Bool, true, false, not, cond}
use Rattle.std.specs.Prelude.{List, [], ◌∷◌, ◌++◌, codes, take, drop, map, flat_map, bytes_eq, Option, Some, None}
use Rattle.std.specs.Fmt.{decimal}
use Rattle.std.specs.List.{prefix_len, list_all}
use Rattle.link_lines_parts.specs.Lines.{words_of}
use Rattle.link_lines_json.specs.Names.{object_fields, text_fields}
use Rattle.link_lines_parts.specs.Names.{is_among}
use Rattle.link_lines_json.specs.Strings.{requoted, string}
use Rattle.link_lines_json.specs.Tokens.{TermText}

-- ---- words

-- Whether a word is a number in hex, as `0x1f`.
abbrev pub is_hex : List ℕ → Bool
is_hex [] = false
is_hex (c ∷ []) = false
is_hex (c ∷ d ∷ word) = (c == 48) && (d == 120)

-- The value of a hex digit; of another byte 0.
abbrev pub hex_digit : ℕ → ℕ
hex_digit c = cond (nat_le 48 c && nat_le c 57) (c - 48) (cond (nat_le 97 c && nat_le c 102) (c - 87) 0)

-- A number with one hex digit more, of which the last 16 count.
abbrev pub with_digit : ℕ → ℕ → ℕ
with_digit n c = (n % (2 ^ 60)) * 16 + hex_digit c

-- The number of more hex digits.
abbrev pub hex_after : ℕ → List ℕ → ℕ
hex_after n [] = n
hex_after n (c ∷ digits) = hex_after (with_digit n c) digits

-- The number of a word in hex, which has at most 16 digits.
abbrev pub hex_value : List ℕ → ℕ
hex_value word = hex_after 0 (drop 1 (drop 1 word))

-- Whether a word is a text in quotes.
abbrev pub is_quoted : List ℕ → Bool
is_quoted [] = false
is_quoted (c ∷ word) = c == 34

-- Whether a byte is a decimal digit.
abbrev pub is_digit : ℕ → Bool
is_digit c = nat_le 48 c && nat_le c 57

-- Whether a word has decimal digits alone, without zeros before them.
abbrev pub is_natural : List ℕ → Bool
is_natural [] = false
is_natural (c ∷ []) = is_digit c
is_natural (c ∷ d ∷ word) = not (c == 48) && list_all is_digit (c ∷ d ∷ word)

-- A word without the sign before it.
abbrev pub without_sign : List ℕ → List ℕ
without_sign [] = []
without_sign (c ∷ word) = cond (c == 45) word (c ∷ word)

-- Whether a word is a decimal number, perhaps below zero.
abbrev pub is_number : List ℕ → Bool
is_number word = is_natural (without_sign word)

-- ---- members of objects

-- The separator before a member, if there is a member before it.
abbrev pub separator : Bool → List ℕ
separator true = codes ", "
separator false = []

-- The name of a member.
unfoldable pub key : List ℕ → List ℕ
key name = string name ++ codes ": "

-- The name of a member after another one.
unfoldable pub next_key : List ℕ → List ℕ
next_key name = codes ", " ++ key name

-- ---- values

-- A name among those of a set's bits, which `|` separates.
abbrev pub flag_json : List ℕ → List ℕ
flag_json word = cond (bytes_eq word (codes "|")) (codes ", ") (string word)

-- The names of a set's bits, from the brackets after it: a list.
unfoldable pub flags_json : Option (List ℕ) → List ℕ
flags_json None = codes "[]"
flags_json (Some names) = 91 ∷ (flat_map flag_json (map (λ word. drop 1 word) (words_of names)) ++ 93 ∷ [])

-- The text of the brackets after a value.
abbrev pub text_json : Option (List ℕ) → List ℕ
text_json None = []
text_json (Some names) = next_key (codes "text") ++ string (drop 1 names)

-- A word that is neither a number in hex nor a text in quotes: a number if it is decimal and not bytes, else a string.
unfoldable pub word_json : Bool → List ℕ → List ℕ
word_json is_bytes word = cond (not is_bytes && is_number word) word (string word)

-- The members of a set's bits: its number and the names, under these keys.
unfoldable pub set_json : List ℕ → List ℕ → TermText → List ℕ
set_json number flags (word, names) =
    key number ++ (decimal (hex_value word) ++ (next_key flags ++ flags_json names))

-- A text in quotes and that it was one, or a word.
abbrev pub text_or_word : Bool → List ℕ → List ℕ
text_or_word is_bytes word =
    cond (is_quoted word) (requoted word ++ (next_key (codes "quoted") ++ codes "true")) (word_json is_bytes word)

-- The members of a value, and of the brackets after it.
unfoldable pub members_json : Bool → TermText → List ℕ
members_json is_bytes (word, names) =
    cond (is_hex word) (set_json (codes "value") (codes "flags") (word, names))
    (key (codes "value") ++ (text_or_word is_bytes word ++ text_json names))

-- Whether a value has one member alone.
abbrev pub is_bare : TermText → Bool
is_bare (word, None) = not (is_hex word || is_quoted word)
is_bare (word, Some names) = false

-- A value as an object.
unfoldable pub object_json : Bool → TermText → List ℕ
object_json is_bytes term = 123 ∷ (members_json is_bytes term ++ 125 ∷ [])

-- A value: itself, if it has one member alone, else an object.
unfoldable pub value_json : Bool → TermText → List ℕ
value_json is_bytes term = cond (is_bare term) (word_json is_bytes term.0) (object_json is_bytes term)

-- ---- fields

-- Whether the value of a field of this name is a text, also if it has digits alone.
abbrev pub is_text_field : List ℕ → Bool
is_text_field name = is_among text_fields name

-- Whether the value of a field of this name isn't an object: it has one member alone, and isn't an object in each header.
abbrev pub is_bare_field : List ℕ → TermText → Bool
is_bare_field name value = is_bare value && not (is_among object_fields name)

-- A field with a name and a value.
unfoldable pub field_json : TermText → TermText → List ℕ
field_json name value =
    key name.0 ++ cond (is_bare_field name.0 value) (word_json (is_text_field name.0) value.0)
    (object_json (is_text_field name.0) value)

-- Fields as headers have them, a name and a value each: `family 0 (AF_UNSPEC) index 2`.
abbrev pub fields_json : Bool → List TermText → List ℕ
fields_json after [] = []
fields_json after (name ∷ []) = []
fields_json after (name ∷ value ∷ terms) =
    (separator after ++ field_json name value) ++ fields_json true terms

-- Whether a byte may be part of the name before `=`.
abbrev pub is_in_key : ℕ → Bool
is_in_key c = not ((c == 61) || ((c == 34) || (c == 40)))

-- The number of bytes of the name before `=`.
abbrev pub key_size : List ℕ → ℕ
key_size word = prefix_len is_in_key word

-- Whether the first byte of a text is `=`.
abbrev pub begins_with_equals_sign : List ℕ → Bool
begins_with_equals_sign [] = false
begins_with_equals_sign (c ∷ text) = c == 61

-- Whether a word is a field of a record, `name=value`.
unfoldable pub is_assignment : List ℕ → Bool
is_assignment word = nat_lt 0 (key_size word) && begins_with_equals_sign (drop (key_size word) word)

-- A field of a record.
unfoldable pub assignment_json : TermText → List ℕ
assignment_json (word, names) =
    key (take (key_size word) word) ++
    value_json (is_text_field (take (key_size word) word)) (drop 1 (drop (key_size word) word), names)

-- Fields as records have them: `rx_packets=1 flags=0x1 (UP)`.
abbrev pub assignments_json : Bool → List TermText → List ℕ
assignments_json after [] = []
assignments_json after (term ∷ terms) = (separator after ++ assignment_json term) ++ assignments_json true terms

-- The first field of a record.
abbrev pub first_assignment_json : Bool → List TermText → List ℕ
first_assignment_json after [] = []
first_assignment_json after (term ∷ terms) = separator after ++ assignment_json term

-- The field `name=number` of a record.
abbrev pub number_field : List ℕ → List ℕ → TermText
number_field name number = (name ++ 61 ∷ number, None)

-- It as JSON, if each byte of the name stands for itself.
abbrev pub number_field_json : List ℕ → List ℕ → List ℕ
number_field_json name number = 34 ∷ (name ++ (codes "\": " ++ number))

-- Whether a term is a decimal number alone.
abbrev pub is_plain_number : TermText → Bool
is_plain_number (word, None) = is_number word
is_plain_number (word, Some names) = false

-- Whether all terms are.
unfoldable pub are_numbers : List TermText → Bool
are_numbers terms = list_all is_plain_number terms

-- The elements of a list.
abbrev pub elements_json : Bool → List TermText → List ℕ
elements_json after [] = []
elements_json after (term ∷ terms) = (separator after ++ value_json false term) ++ elements_json true terms
