-- The types of a protocol's own messages, and their encoding.
use Rattle.std.specs.Prelude.{ℕ, ◌≤◌, List}

-- The type is none of a control message, 1 to 4.
abbrev pub IsInner : ℕ → Type 0
IsInner t = 1 ≤ t → 5 ≤ t

-- A message type and the bytes of a body.
abbrev pub TypedBody : Type 0
TypedBody = ℕ × List ℕ
