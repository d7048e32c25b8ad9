-- Stacks of nested lists, with one more list at the end.
use Rattle.std.proofs.Common.{◌≡◌, ℕ, suc, ◌+◌, List, [], ◌∷◌, ◌++◌, length, refl, sym, ap, subst, ◌∙◌, append_assoc, append-nil, arith}
use Rattle.link_capture_quirks.specs.declared.walk.Level.{Level}
use Rattle.link_capture_quirks.specs.QuirkWalks.{level_quirks, levels_quirks, FitsInside, AreWithin, weight}

pub quirks-push : (ls : List Level) (l : Level) → levels_quirks (ls ++ l ∷ []) ≡ level_quirks l ++ levels_quirks ls
quirks-push [] l = sym (append-nil (level_quirks l))
quirks-push (k ∷ ls) l = ap (λ t. t ++ level_quirks k) (quirks-push ls l) ∙ append_assoc (level_quirks l) (levels_quirks ls) (level_quirks k)

pub weight-push : (ls : List Level) (l : Level) → weight (ls ++ l ∷ []) ≡ weight ls + (length l.rest.now + 1)
weight-push [] l = refl
weight-push (k ∷ ls) l = let e = weight-push ls l in omega (arith, e)

moved : (m n : ℕ) (l : Level) → m ≡ n → FitsInside m l → FitsInside n l
moved m n l e i = subst (λ k. FitsInside k l) e i

pub within-push : (n : ℕ) (ls : List Level) (l : Level) → AreWithin n ls → FitsInside (n + length ls) l → AreWithin n (ls ++ l ∷ [])
within-push n [] l h i = (moved (n + 0) n l (omega arith) i, tt)
within-push n (k ∷ ls) l h i = (h.0, within-push (suc n) ls l h.1 (moved (n + suc (length ls)) (suc n + length ls) l (omega arith) i))

pub within-leading : (n : ℕ) (ls : List Level) (l : Level) → AreWithin n (ls ++ l ∷ []) → AreWithin n ls
within-leading n [] l h = tt
within-leading n (k ∷ ls) l h = (h.0, within-leading (suc n) ls l h.1)

pub within-last : (n : ℕ) (ls : List Level) (l : Level) → AreWithin n (ls ++ l ∷ []) → FitsInside (n + length ls) l
within-last n [] l h = moved n (n + 0) l (omega arith) h.0
within-last n (k ∷ ls) l h = moved (suc n + length ls) (n + suc (length ls)) l (omega arith) (within-last (suc n) ls l h.1)
