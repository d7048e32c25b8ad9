-- The indentation of one level more.
use Rattle.std.proofs.Common.{◌<◌, ◌-◌, ◌≤◌, take, ◌≡◌, ℕ, zero, suc, ◌+◌, ◌*◌, [], ◌∷◌, ◌++◌, refl, ap, ◌∙◌, arith}
use Rattle.std.specs.Prelude.{replicate}
use Rattle.link_lines_values.specs.declared.indents.TheConstants.{SPACES}
use Rattle.link_lines_values.specs.Indents.{indent}

two_more : (n : ℕ) → ◌++◌ {A = ℕ} (replicate n 32) (32 ∷ 32 ∷ []) ≡ 32 ∷ 32 ∷ replicate n 32
two_more zero = refl
two_more (suc n) = ap (λ z. 32 ∷ z) (two_more n)

pub one_deeper : (n : ℕ) → indent n ++ 32 ∷ 32 ∷ [] ≡ indent (n + 1)
one_deeper n = let e : suc (suc (2 * n)) ≡ 2 * (n + 1) = omega arith in two_more (2 * n) ∙ ap (λ k. replicate k 32) e

-- The indentation of a level, and of the levels that are left.
pub next_level : (level n : ℕ) → n < level → 32 ∷ 32 ∷ indent (level - (n + 1)) ≡ indent (level - n)
next_level level n h = let e : suc (suc (2 * (level - (n + 1)))) ≡ 2 * (level - n) = omega arith in ap (λ k. replicate k 32) e

first_of : (n m : ℕ) → n ≤ m → take {A = ℕ} n (replicate m 32) ≡ replicate n 32
first_of zero m h = refl
first_of (suc n) zero h = absurd (omega arith)
first_of (suc n) (suc m) h = ap (λ z. 32 ∷ z) (first_of n m (omega arith))

pub spaces : (level : ℕ) → level ≤ 8 → take (2 * level) SPACES ≡ indent level
spaces level h = first_of (2 * level) 16 (omega arith)
