-- The first bytes of what was read.
use Rattle.std.proofs.Common.{◌≡◌, ℕ, zero, suc, ◌+◌, List, [], ◌∷◌, ◌++◌, length, take, min, refl, sym, ap, ◌∙◌, arith}
use Rattle.std.proofs.lemmas.List.{take_min}
use Rattle.std.proofs.Math.Seq.{take-append-add}

-- as many bytes are appended as there is capacity for
pub kept : (first bytes : List ℕ) (capacity : ℕ) → capacity + length first ≡ 4 → first ++ take (min capacity (length bytes)) bytes ≡ take 4 (first ++ bytes)
kept first bytes capacity e =
    let size : length first + capacity ≡ 4 = omega arith in
    ap (λ t. first ++ t) (take_min capacity bytes) ∙ sym (take-append-add first bytes capacity) ∙ ap (λ n. take n (first ++ bytes)) size

-- the first n elements stay the same if the first list is cut to n elements before the second is appended
take_twice : (n : ℕ) (xs ys : List ℕ) → take n (take n xs ++ ys) ≡ take n (xs ++ ys)
take_twice zero xs ys = refl
take_twice (suc n) [] ys = refl
take_twice (suc n) (x ∷ xs) ys = ap (λ l. x ∷ l) (take_twice n xs ys)

-- the first bytes remain those of what was read when another piece comes
pub kept_more : (before after s piece : List ℕ) → before ≡ take 4 s → after ≡ take 4 (before ++ piece) → after ≡ take 4 (s ++ piece)
kept_more before after s piece b a = a ∙ ap (λ x. take 4 (x ++ piece)) b ∙ take_twice 4 s piece
