-- Lines of bytes.
use Rattle.std.specs.Prelude.{ℕ, List, [], ◌∷◌, ◌++◌, codes}
use Rattle.link_lines_values.specs.Bytes.{bytes_text}

-- A line of a name and bytes; no line if there are no bytes.
unfoldable pub bytes_line : List ℕ → List ℕ → List ℕ
bytes_line name [] = []
bytes_line name (b ∷ bytes) = codes "  " ++ (name ++ (bytes_text (b ∷ bytes) ++ 10 ∷ []))
