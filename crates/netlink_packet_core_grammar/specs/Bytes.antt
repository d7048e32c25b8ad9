-- Byte strings, as lists of numbers below 256.
use Rattle.std.specs.Prelude.{ℕ, ◌<◌, ◌+◌, ◌-◌, List, ◌++◌, length, take, drop}
use Rattle.std.specs.List.{AllByRecursion}

-- Each number is a byte.
abbrev pub AreBytes : List ℕ → Type 0
AreBytes p = AllByRecursion (λ b. b < 256) p

-- The byte string b, with w written over the bytes from offset i on.
abbrev pub put_at : ℕ → List ℕ → List ℕ → List ℕ
put_at i w b = take i b ++ (w ++ drop (i + length w) b)

-- The bytes of b from offset i up to offset j.
abbrev pub part : ℕ → ℕ → List ℕ → List ℕ
part i j b = take (j - i) (drop i b)
