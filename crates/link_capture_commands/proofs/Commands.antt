-- The arguments of the program.
use Rattle.std.proofs.Common.{◌≡◌, ℕ, ◌-◌, ◌≤◌, List, [], ◌∷◌, length, map, take, drop, get_or, codes, sym, ap, subst, ◌∙◌, arith}
use Rattle.std.proofs.lemmas.List.{take_rest}
use Rattle.link_capture_commands.specs.Commands.{AsksForLimit, AsksForNorm, AsksForSame}

pub norm_arguments : {A : Type 0} (f : A → List ℕ) (ws : List A) (w : A) (n : ℕ) → 1 ≤ length ws → w ≡ get_or ws 0 w → f w ≡ codes "norm" → AsksForLimit (map f (take (length ws - 1) (drop 1 ws))) n → AsksForNorm (map f ws) n
norm_arguments f [] w n m e h i = absurd (omega arith)
norm_arguments f (x ∷ last) w n m e h i = (ap f (sym e) ∙ h, subst (λ t. AsksForLimit (map f t) n) (take_rest (x ∷ last) 1) i)

pub same_arguments : {A : Type 0} (f : A → List ℕ) (ws : List A) (w a b : A) (first second : List ℕ) (n : ℕ) → 3 ≤ length ws → w ≡ get_or ws 0 w → a ≡ get_or ws 1 a → b ≡ get_or ws 2 b → f w ≡ codes "same" → first ≡ f a → second ≡ f b → AsksForLimit (map f (take (length ws - 3) (drop 3 ws))) n → AsksForSame (map f ws) first second n
same_arguments f [] w a b first second n m e d k h p q i = absurd (omega arith)
same_arguments f (x ∷ []) w a b first second n m e d k h p q i = absurd (omega arith)
same_arguments f (x ∷ y ∷ []) w a b first second n m e d k h p q i = absurd (omega arith)
same_arguments f (x ∷ y ∷ z ∷ last) w a b first second n m e d k h p q i = (ap f (sym e) ∙ h, p ∙ ap f d, q ∙ ap f k, subst (λ t. AsksForLimit (map f t) n) (take_rest (x ∷ y ∷ z ∷ last) 3) i)
