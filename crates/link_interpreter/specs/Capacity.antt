-- Capacity at the end of a vector.
use Rattle.std.specs.Prelude.{ℕ, ◌+◌, ◌≤◌, List, length, Vec, vec_capacity}

-- The vector has the capacity to append the bytes without allocating.
abbrev pub HasCapacity : {Z : Type 0} → Vec ℕ Z → List ℕ → Type 0
HasCapacity out text = length out.items + length text ≤ vec_capacity out
