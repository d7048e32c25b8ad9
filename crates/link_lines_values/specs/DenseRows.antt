-- Rows of consecutive kinds, in which the index determines the kind.
use Rattle.std.specs.Prelude.{ℕ, suc, ◌==◌, ◌&&◌, Bool, true, cond, List, [], ◌∷◌, Option, None}

-- The entry of a kind.
abbrev pub find : {A : Type 0} → ℕ → List (ℕ × Option A) → Option A
find k [] = None
find k (t ∷ ts) = cond (t.0 == k) t.1 (find k ts)

-- Whether rows are for all kinds from this one on, without a gap.
abbrev pub are_dense_from : {A : Type 0} → ℕ → List (ℕ × Option A) → Bool
are_dense_from n [] = true
are_dense_from n (t ∷ ts) = (t.0 == n) && are_dense_from (suc n) ts

-- Whether rows are for all kinds from that of the first row on, without a gap.
abbrev pub are_dense : {A : Type 0} → List (ℕ × Option A) → Bool
are_dense [] = true
are_dense (t ∷ ts) = are_dense_from (suc t.0) ts
