-- The types of messages whose bodies are kept as they are.
use Rattle.std.specs.Prelude.{ℕ, ◌≤◌}

-- A type outside 1 to 4, the control messages, and 16 to 19, the link messages.
pub record IsOtherType (t : ℕ) : Type 0 where
  pub no_control : 1 ≤ t → 5 ≤ t
  pub no_link : 16 ≤ t → 20 ≤ t
