-- Addresses of the Internet protocol as text.
use Rattle.std.specs.Prelude.{ℕ, List, [], ◌∷◌, ◌++◌, flat_map}
use Rattle.std.specs.Net.Text.{hex}

-- A colon and a segment in hex.
abbrev pub colon_segment : ℕ → List ℕ
colon_segment segment = 58 ∷ hex segment

-- Segments in hex with colons between them.
abbrev pub segments_text : List ℕ → List ℕ
segments_text [] = []
segments_text (segment ∷ rest) = hex segment ++ flat_map colon_segment rest
