-- The digits of a number, written from the last to the first.
use Rattle.std.proofs.Common.{◌≡◌, ℕ, zero, suc, ◌-◌, ◌/◌, ◌%◌, ◌<◌, ◌≤◌, Bool, true, false, eqb, cond, List, [], ◌∷◌, length, drop, set, refl, ap, ◌∙◌, arith, eq-eqb, ne_eqb, length-set, drop-cons, get_or-set_same, drop-set-lt}
use Rattle.std.specs.Fmt.{digit_glyph, digits_onto, digits}

pub all_digits : (n : ℕ) → digits_onto 64 16 false n [] ≡ digits 16 false n
unfolding digits
all_digits n = refl

module _ (n : ℕ) (after : List ℕ) where
  digit_before : (k : ℕ) (t : Bool) → eqb (n / 16) 0 ≡ t → digits_onto (suc k) 16 false n after ≡ cond t (digit_glyph false (n % 16) ∷ after) (digits_onto k 16 false (n / 16) (digit_glyph false (n % 16) ∷ after))
  digit_before k t e = ap (λ (b : Bool). cond b (digit_glyph false (n % 16) ∷ after) (digits_onto k 16 false (n / 16) (digit_glyph false (n % 16) ∷ after))) e

  pub last_digit : (i : ℕ) → 0 < i → n / 16 ≡ 0 → digits_onto i 16 false n after ≡ digit_glyph false (n % 16) ∷ after
  last_digit zero h e = absurd (omega arith)
  last_digit (suc k) h e = digit_before k true (eq-eqb _ 0 e)

  pub next_digit : (i : ℕ) → 0 < i → (n / 16 ≡ 0 → ⊥) → digits_onto i 16 false n after ≡ digits_onto (i - 1) 16 false (n / 16) (digit_glyph false (n % 16) ∷ after)
  next_digit zero h e = absurd (omega arith)
  next_digit (suc k) h e = digit_before k false (ne_eqb _ 0 e) ∙ ap (λ (j : ℕ). digits_onto j 16 false (n / 16) (digit_glyph false (n % 16) ∷ after)) {x = k} {y = suc k - 1} (omega arith)

-- A digit written before the others.
pub drop-set-cons : (out : List ℕ) (i x g : ℕ) → 0 < i → i ≤ length out → x ≡ g → drop (i - 1) (set out (i - 1) x) ≡ g ∷ drop i out
drop-set-cons out zero x g h k e = absurd (omega arith)
drop-set-cons out (suc j) x g h k e =
    ap (λ (m : ℕ). drop m (set out m x)) {x = suc j - 1} {y = j} (omega arith) ∙ drop-cons (set out j x) j 0 (omega (arith, length-set out j x))
    ∙ (λ t. (get_or-set_same out j x 0 k ∙ e) t ∷ drop-set-lt (suc j) out j x (omega arith) t)
