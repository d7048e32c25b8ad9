-- The indentation of lines.
use Rattle.std.specs.Prelude.{ℕ, ◌*◌, List, replicate}

-- The indentation of a level: two spaces for each.
abbrev pub indent : ℕ → List ℕ
indent level = replicate (2 * level) 32
