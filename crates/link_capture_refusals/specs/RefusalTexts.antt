-- The text of a refusal.
use Rattle.std.specs.Prelude.{ℕ, List, [], ◌∷◌, ◌++◌, codes, Option, Some, None}
use Rattle.std.specs.Fmt.{decimal}
use Rattle.link_capture_refusals.specs.ReasonTexts.{words}
use Rattle.link_capture_refusals.specs.Refusals.{Found}

-- The separator after a name, before the names inside: a sign, or a colon after the last name.
abbrev pub separator_after_name : List (List ℕ) → List ℕ
separator_after_name [] = codes ": "
separator_after_name (n ∷ ns) = codes " > "

-- The text of names, outermost first, with their separators.
abbrev pub path_text : List (List ℕ) → List ℕ
path_text [] = []
path_text (n ∷ ns) = n ++ (separator_after_name ns ++ path_text ns)

-- The text of an offset, if there is one.
abbrev pub offset_text : Option ℕ → List ℕ
offset_text None = []
offset_text (Some offset) = codes " at " ++ decimal offset

-- The text of a refusal: the names, the reason and the offset.
abbrev pub refusal_text : Found → List ℕ
refusal_text f = path_text f.path ++ (words f.reason ++ offset_text f.offset)
