-- The levels of lines.
use Rattle.std.specs.Prelude.{ℕ}

-- The deepest level of a line. What would be deeper is shown as bytes on a line of this level or a lower one.
abbrev pub deepest_level : ℕ
deepest_level = 16
