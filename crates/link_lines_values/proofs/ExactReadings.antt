-- Payloads of raw attributes, as code reads them: the last byte, and pieces one after the other.
use Rattle.std.proofs.Common.{◌≡◌, ℕ, zero, suc, ◌+◌, ◌-◌, ◌<◌, List, [], ◌∷◌, ◌++◌, length, take, drop, refl, ap, ◌∙◌, arith, w32}
use Rattle.std.specs.Int.{from_be_bytes}
use Rattle.std.specs.Prelude.{◌==◌, get_or, min, nat_lt}
use Rattle.std.proofs.lemmas.List.{drop_min, take_min}
use Rattle.link_lines_values.proofs.Readings.{high_4}
use Rattle.link_lines_values.specs.Exact.{label_text, label_value, ends_with_nul, pieces_text}

last_at : (p : List ℕ) (n : ℕ) → length p ≡ suc n → (get_or p n 0 == 0) ≡ ends_with_nul p
last_at (b ∷ []) zero l = refl
last_at (b ∷ c ∷ p) (suc n) l = last_at (c ∷ p) n (omega arith)
last_at p n l = absurd (omega arith)

pub last_byte : (p : List ℕ) → 0 < length p → (get_or p (length p - 1) 0 == 0) ≡ ends_with_nul p
last_byte p h = last_at p (length p - 1) (omega arith)

pub no_last_byte : (p : List ℕ) → length p ≡ 0 → nat_lt 0 (length p) ≡ ends_with_nul p
no_last_byte [] h = refl
no_last_byte (b ∷ p) h = absurd (omega arith)

next_piece : (f : List ℕ → List ℕ) (n k : ℕ) (p : List ℕ) → 0 < k → f (take n p) ++ pieces_text f n (k - 1) (drop n p) ≡ pieces_text f n k p
next_piece f n zero p h = absurd (omega arith)
next_piece f n (suc k) p h = ap (λ (j : ℕ). f (take n p) ++ pieces_text f n j (drop n p)) {x = suc k - 1} {y = k} (omega arith)

-- A piece as code reads it, and the pieces after it.
pub next_of_pieces : (f : List ℕ → List ℕ) (n count i m : ℕ) (rest part after : List ℕ) → i < count → m ≡ min n (length rest) → part ≡ take m rest → after ≡ drop m rest →
    f part ++ pieces_text f n (count - (i + 1)) after ≡ pieces_text f n (count - i) rest
next_of_pieces f n count i m rest part after h k front back =
    let first : part ≡ take n rest = front ∙ ap (λ j. take j rest) k ∙ take_min n rest in
    let more : after ≡ drop n rest = back ∙ ap (λ j. drop j rest) k ∙ drop_min n rest in
    let left : count - (i + 1) ≡ count - i - 1 = omega arith in
    (λ t. f (first t) ++ pieces_text f n (left t) (more t)) ∙ next_piece f n (count - i) rest (omega arith)

-- A label of 4 bytes.
pub label_bytes : (p : List ℕ) (n : ℕ) → length p ≡ 4 → n ≡ from_be_bytes w32 (get_or p 0 0 ∷ get_or p 1 0 ∷ get_or p 2 0 ∷ get_or p 3 0 ∷ []) → label_text n ≡ label_value p
label_bytes (a ∷ b ∷ c ∷ d ∷ []) n len from = ap (λ x. label_text x) (from ∙ high_4 a b c d)
label_bytes p n len from = absurd (omega arith)
