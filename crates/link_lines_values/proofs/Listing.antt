-- Names in brackets, written one after the other; bytes that are left out in two steps.
use Rattle.std.proofs.Common.{◌≡◌, ℕ, ◌+◌, Bool, List, cond, drop, sym}
use Rattle.std.proofs.lemmas.List.{drop-drop}
use Rattle.link_lines_values.specs.Flags.{opened, separated}

-- The text that these names add to that of the names before, if any.
abbrev pub begun : Bool → List (List ℕ) → List ℕ
begun is_any names = cond is_any (separated names) (opened names)

-- Bytes after two sizes are those after their sum.
pub further_on : (n m : ℕ) (p : List ℕ) → drop (n + m) p ≡ drop m (drop n p)
further_on n m p = sym (drop-drop m n p)
