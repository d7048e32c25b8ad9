-- Lines of text, each with its level of indentation.
use Rattle.std.specs.Prelude.{◌≡◌, ℕ, List, [], ◌∷◌, ◌++◌, flat_map}
use Rattle.link_lines_values.specs.Indents.{indent}

-- A line: its level, and its text without the indentation and the newline.
abbrev pub Line : Type 0
Line = ℕ × List ℕ

-- A line with its indentation and its newline.
abbrev pub line_text : Line → List ℕ
line_text line = indent line.0 ++ (line.1 ++ 10 ∷ [])

-- The text of some lines.
unfoldable pub lines_text : List Line → List ℕ
lines_text lines = flat_map line_text lines

-- A text doesn't begin with a line of this level or a deeper one.
abbrev pub IsShallow : ℕ → List ℕ → Type 0
IsShallow level s = (r : List ℕ) → s ≡ indent level ++ r → ⊥
