-- Look-ups by bytes in a map whose keys are vectors of bytes.
use Rattle.std.proofs.Common.{◌≡◌, ◌≢◌, ℕ, List, Bool, true, false, ap, ◌∙◌, sym, refl}
use Rattle.std.specs.Prelude.{Vec, bytes_eq}
use Rattle.std.specs.Cmp.Lexicographic.{bytes_decides}
use Rattle.std.specs.Map.{lookup, KeepsOthers}

-- for other bytes than the changed key's, a look-up returns what it returned before
pub other_text_stays : {Y X : Type 0} (key : Vec ℕ Y) (text : List ℕ) (old new : List (Vec ℕ Y × X))
    → KeepsOthers (λ x y. bytes_eq x.items y.items) (λ y. bytes_eq key.items y.items) old new
    → text ≢ key.items → lookup (λ y. bytes_eq text y.items) new ≡ lookup (λ y. bytes_eq text y.items) old
unfolding KeepsOthers
other_text_stays {Y} key text old new keeps other =
    keeps (λ y. bytes_eq text y.items)
    (λ x y e. ap (λ t. bytes_eq t y.items) ((bytes_decides text x.items).0 e))
    (λ y e. apart (bytes_eq text y.items)
    (λ f. other ((bytes_decides text y.items).0 f ∙ sym ((bytes_decides key.items y.items).0 e))))
  where
    apart : (b : Bool) → (b ≡ true → ⊥) → b ≡ false
    apart true h = absurd (h refl)
    apart false h = refl
