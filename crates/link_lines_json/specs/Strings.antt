-- Strings of JSON (RFC 8259).
use Rattle.std.specs.Prelude.{ℕ, ◌==◌, ◌||◌, ◌&&◌, nat_le, nat_lt, Bool, true, false, cond, List, [], ◌∷◌, ◌++◌, codes, flat_map}
use Rattle.link_lines_values.specs.Digits.{hex_byte}

-- A byte of a string: `\"` and `\\` as they are in a line too, and `\u00nn` for a byte under 32 or from 127 on.
abbrev pub escaped : ℕ → List ℕ
escaped c =
    cond ((c == 34) || (c == 92)) (92 ∷ c ∷ [])
    (cond (nat_le 32 c && nat_lt c 127) (c ∷ []) (codes "\\u00" ++ hex_byte c))

-- The string of a text.
abbrev pub string : List ℕ → List ℕ
string text = 34 ∷ (flat_map escaped text ++ 34 ∷ [])

-- A byte after a backslash: of `\xnn` the `u00` of `\u00nn`.
abbrev pub after_backslash : ℕ → List ℕ
after_backslash c = cond (c == 120) (codes "u00") (c ∷ [])

-- What the bytes of a text in quotes become; `escapes` says whether a backslash is before them.
abbrev pub requoted_after : Bool → List ℕ → List ℕ
requoted_after escapes [] = []
requoted_after true (c ∷ text) = after_backslash c ++ requoted_after false text
requoted_after false (c ∷ text) = c ∷ requoted_after (c == 92) text

-- The string of a text in quotes, as lines have it: each of its bytes becomes the character of the same number.
abbrev pub requoted : List ℕ → List ℕ
requoted text = requoted_after false text
