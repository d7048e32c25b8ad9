-- Booleans as numbers and as bytes.
use Rattle.std.specs.Prelude.{ℕ, zero, suc, Bool, true, false, List, [], ◌∷◌}

-- 1 if the number isn't 0, else 0.
abbrev pub boolean_of : ℕ → ℕ
boolean_of zero = 0
boolean_of (suc n) = 1

-- 1 if the number is 1, else 0.
abbrev pub is_one : ℕ → ℕ
is_one zero = 0
is_one (suc zero) = 1
is_one (suc (suc n)) = 0

-- A boolean as one byte, 1 or 0.
abbrev pub boolean_byte : Bool → List ℕ
boolean_byte true = 1 ∷ []
boolean_byte false = 0 ∷ []
