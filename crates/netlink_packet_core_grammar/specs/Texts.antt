-- Text: UTF-8, with or without one NUL at the end.
use Rattle.std.specs.Prelude.{ℕ, zero, suc, Bool, List, [], ◌∷◌}
use Rattle.std.specs.Str.{is_utf8}

-- The bytes without the NUL at their end, if there is one.
abbrev pub without_nul : List ℕ → List ℕ
without_nul [] = []
without_nul (zero ∷ []) = []
without_nul (suc b ∷ []) = suc b ∷ []
without_nul (b ∷ c ∷ bytes) = b ∷ without_nul (c ∷ bytes)

-- The bytes are text: UTF-8, apart from one NUL at the end.
abbrev pub is_text : List ℕ → Bool
is_text bytes = is_utf8 (without_nul bytes)
