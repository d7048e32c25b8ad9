-- The search for a name in tables of attributes.
use Rattle.std.specs.Prelude.{ℕ, zero, suc, cond, List, [], ◌∷◌, Option, Some, None}
use Rattle.std.specs.Str.{str_eq_ignore_ascii_case}
use Rattle.link_lines_raw.specs.Names.{NameRowOf}
use Rattle.link_lines_raw.specs.Tables.{raw_rows_of}

-- The first name if there is one, else the second.
abbrev pub first_name : Option (List ℕ) → Option (List ℕ) → Option (List ℕ)
first_name None o = o
first_name (Some name) o = Some name

-- The name of a row, if the word is that name; the case of ASCII letters doesn't count.
abbrev pub name_if : {N A : Type 0} → (N → List ℕ) → List ℕ → Option (N × A) → Option (List ℕ)
name_if f w None = None
name_if f w (Some n) = cond (str_eq_ignore_ascii_case (f n.0) w) (Some (f n.0)) None

-- The first name in some rows that the word is.
abbrev pub named_in : {N A : Type 0} → (N → List ℕ) → List ℕ → List (ℕ × Option (N × A)) → Option (List ℕ)
named_in f w [] = None
named_in f w (row ∷ rows) = first_name (name_if f w row.1) (named_in f w rows)

-- The first name that the word is, in the order of the tables with an index below n and of their rows.
abbrev pub named_below : {A : Type 0} → (ℕ → List (NameRowOf A)) → List ℕ → ℕ → Option (List ℕ)
named_below rows w zero = None
named_below rows w (suc n) = first_name (named_below rows w n) (named_in (λ name. name) w (rows n))

-- The name of a raw attribute, of any table, that the word is. The table of the index 511 has no rows.
unfoldable pub raw_name : List ℕ → Option (List ℕ)
raw_name w = named_below raw_rows_of w 511
