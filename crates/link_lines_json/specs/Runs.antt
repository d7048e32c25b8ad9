-- Bytes that need no decision.
use Rattle.std.specs.Prelude.{ℕ, ◌==◌, ◌||◌, ◌&&◌, nat_lt, Bool, not, cond}
use Rattle.std.specs.Int.{w64, trailing_zeros}

-- Whether a byte stands for itself in a string, and neither ends a word or the name before `=` nor begins a text in quotes
-- or brackets.
abbrev pub is_simple : ℕ → Bool
is_simple c = (nat_lt 40 c && nat_lt c 127) && not ((c == 61) || (c == 92))

-- The index of the lowest of 8 bits that is set, or 8.
abbrev pub first_set : ℕ → ℕ
first_set mask = cond (mask == 0) 8 (trailing_zeros w64 mask)
