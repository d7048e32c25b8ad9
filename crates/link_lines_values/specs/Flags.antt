-- Sets of flags, and the names of their bits.
use Rattle.std.specs.Prelude.{ℕ, ◌-◌, ◌==◌, ◌&&◌, bit_and, Bool, true, false, List, [], ◌∷◌, ◌++◌, codes, cond}
use Rattle.std.specs.Prelude.{length}
use Rattle.attribute_tables_grammar.specs.Shapes.{number}
use Rattle.link_lines_values.specs.Digits.{big_endian, hex_number}
use Rattle.link_lines_values.specs.Names.{Text}

-- The names of the bits that are set.
abbrev pub names_set : List Text → ℕ → List (List ℕ)
names_set [] n = []
names_set (r ∷ rs) n = cond (bit_and n r.0 == 0) (names_set rs n) (r.1 ∷ names_set rs n)

-- The bits without a name.
abbrev pub nameless : List Text → ℕ → ℕ
nameless [] n = n
nameless (r ∷ rs) n = nameless rs (n - bit_and n r.0)

-- Each name with ` | ` before it.
abbrev pub separated : List (List ℕ) → List ℕ
separated [] = []
separated (name ∷ names) = codes " | " ++ (name ++ separated names)

-- Whether there are no names.
abbrev pub has_none : List (List ℕ) → Bool
has_none [] = true
has_none (name ∷ names) = false

-- Names with ` (` before the first and ` | ` before each other.
abbrev pub opened : List (List ℕ) → List ℕ
opened [] = []
opened (name ∷ names) = codes " (" ++ (name ++ separated names)

-- The bits without a name, which come last, if there are any.
abbrev pub nameless_text : ℕ → List ℕ
nameless_text n = cond (n == 0) [] (codes " | " ++ hex_number n)

-- Names, and bits without a name, in brackets with ` | ` between them; nothing if there is no name.
abbrev pub listed : List (List ℕ) → ℕ → List ℕ
listed names rest = cond (has_none names) [] (opened names ++ (nameless_text rest ++ codes ")"))

-- Flags as in `0x1003 (Up | Broadcast | Multicast)`.
abbrev pub named_flags : List Text → ℕ → List ℕ
named_flags names n = hex_number n ++ listed (names_set names n) (nameless names n)

-- Flags of 4 bytes: as others, or as `0xffffffff (all)` if all bits are set.
abbrev pub word_flags : List Text → ℕ → List ℕ
word_flags names n =
    hex_number n ++ cond (n == 4294967295) (codes " (all)") (listed (names_set names n) (nameless names n))

-- The little-endian flags of some bytes, with the names of their bits.
abbrev pub flags_text : List Text → List ℕ → List ℕ
flags_text names p = cond (length p == 4) (word_flags names (number p)) (named_flags names (number p))

-- Flags without names as in `0x1003`, or as `0xffffffff (all)` if they have 4 bytes and all bits are set.
abbrev pub nameless_flags : Bool → ℕ → List ℕ
nameless_flags is_word n = hex_number n ++ cond (is_word && (n == 4294967295)) (codes " (all)") []

-- The big-endian flags of some bytes.
abbrev pub big_endian_flags : List ℕ → List ℕ
big_endian_flags p = nameless_flags (length p == 4) (big_endian p)
