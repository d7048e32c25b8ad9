-- Values found by their numbers and by their names.
use Rattle.std.specs.Prelude.{ℕ, List, [], ◌∷◌, Option, Some, None, bytes_eq, ◌==◌, if◌then◌else◌}

-- The first of the values that has the number n, else `other n`.
abbrev pub numbered_by : {V : Type 0} → (V → ℕ) → List V → (ℕ → V) → ℕ → V
numbered_by number [] other n = other n
numbered_by number (v ∷ vs) other n =
    if n == number v then v else numbered_by number vs other n

-- The first of the values that has the name n.
abbrev pub named_by : {V : Type 0} → (V → List ℕ) → List V → List ℕ → Option V
named_by text [] n = None
named_by text (v ∷ vs) n = if bytes_eq n (text v) then Some v else named_by text vs n
