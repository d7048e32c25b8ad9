-- Numbers, and the names that are shown beside them.
use Rattle.std.specs.Prelude.{ℕ, ◌==◌, List, [], ◌∷◌, ◌++◌, codes, cond}
use Rattle.std.specs.Fmt.{decimal}
use Rattle.link_lines_values.specs.Digits.{half_of, signed_by}

-- A number and its name.
abbrev pub Text : Type 0
Text = ℕ × List ℕ

-- The names that rows in code represent.
abbrev pub texts_of : {N : Type 0} → (N → List ℕ) → List (ℕ × N) → List Text
texts_of f [] = []
texts_of f (r ∷ rs) = (r.0, f r.1) ∷ texts_of f rs

-- The name of a number in these rows, or nothing.
abbrev pub text_in : List Text → ℕ → List ℕ
text_in [] n = []
text_in (r ∷ rs) n = cond (n == r.0) r.1 (text_in rs n)

-- A name in brackets; nothing for no name.
abbrev pub bracketed : List ℕ → List ℕ
bracketed [] = []
bracketed (c ∷ name) = codes " (" ++ (c ∷ name ++ codes ")")

-- A number as in `6 (UP)`, or `6` if it has no name.
abbrev pub named_number : List Text → ℕ → List ℕ
named_number texts n = decimal n ++ bracketed (text_in texts n)

-- A number of this size in bytes with its sign and its name, as in `-1 (all)`; the rows of names have it without a sign.
abbrev pub named_signed : List Text → ℕ → ℕ → List ℕ
named_signed texts size n = signed_by (half_of size) n ++ bracketed (text_in texts n)
