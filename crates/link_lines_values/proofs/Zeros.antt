-- The number of bytes without the zeros at the end, counted from the first byte on.
use Rattle.std.proofs.Common.{◌≡◌, ◌≢◌, ℕ, ◌+◌, ◌&&◌, Bool, true, false, cond, List, [], ◌∷◌, refl, ap, sym, ◌∙◌, zero-add, add_assoc, eq-eqb, ne_eqb, ◌<◌, length, drop, get_or, drop-cons, add-one, arith}
use Rattle.std.specs.Prelude.{◌*◌, ◌==◌}
use Rattle.std.proofs.lemmas.Bool.{eqb-true}
use Rattle.std.proofs.lemmas.Bool.Decides.{nat_tests}
use Rattle.attribute_tables_grammar.specs.Shapes.{number}
use Rattle.link_lines_values.specs.Bytes.{is_zero, count_without_zeros}

-- The count over all bytes, given the count over the first i and the rest.
abbrev pub counted : ℕ → ℕ → List ℕ → ℕ
counted i count rest = cond (is_zero rest) count (i + count_without_zeros rest)

none : (z : Bool) (n : ℕ) → cond z 0 (0 + cond z 0 n) ≡ cond z 0 n
none true n = refl
none false n = zero-add n

pub counted_all : (bytes : List ℕ) → counted 0 0 bytes ≡ count_without_zeros bytes
counted_all [] = refl
counted_all (b ∷ bytes) = none (is_zero (b ∷ bytes)) (1 + count_without_zeros bytes)

pub all_zero : (bytes : List ℕ) → is_zero bytes ≡ true → count_without_zeros bytes ≡ 0
all_zero [] h = refl
all_zero (b ∷ bytes) h = ap (λ z. cond z 0 (1 + count_without_zeros bytes)) h

after_nonzero : (i n : ℕ) (z : Bool) → (z ≡ true → n ≡ 0) → i + (1 + n) ≡ cond z (i + 1) (i + 1 + n)
after_nonzero i n true h = ap (λ m. i + (1 + m)) (h refl)
after_nonzero i n false h = sym (add_assoc i 1 n)

pub counted_nonzero : (i count b : ℕ) (bytes : List ℕ) → b ≢ 0 → counted i count (b ∷ bytes) ≡ counted (i + 1) (i + 1) bytes
counted_nonzero i count b bytes h =
    ap (λ t. cond (t && is_zero bytes) count (i + cond (t && is_zero bytes) 0 (1 + count_without_zeros bytes))) (ne_eqb b 0 h)
    ∙ after_nonzero i (count_without_zeros bytes) (is_zero bytes) (all_zero bytes)

after_zero : (i count n : ℕ) (z : Bool) → cond z count (i + cond z 0 (1 + n)) ≡ cond z count (i + 1 + n)
after_zero i count n true = refl
after_zero i count n false = sym (add_assoc i 1 n)

pub counted_zero : (i count b : ℕ) (bytes : List ℕ) → b ≡ 0 → counted i count (b ∷ bytes) ≡ counted (i + 1) count bytes
counted_zero i count b bytes h =
    ap (λ t. cond (t && is_zero bytes) count (i + cond (t && is_zero bytes) 0 (1 + count_without_zeros bytes))) (eq-eqb b 0 h)
    ∙ after_zero i count (count_without_zeros bytes) (is_zero bytes)

pub counted_next : (i count n : ℕ) (bytes : List ℕ) → i < length bytes → get_or bytes i 0 ≢ 0 → n ≡ i + 1 → counted (i + 1) n (drop (i + 1) bytes) ≡ counted i count (drop i bytes)
counted_next i count n bytes l h e =
    ap (λ m. counted (i + 1) m (drop (i + 1) bytes)) e
    ∙ sym (ap (counted i count) (drop-cons bytes i 0 l ∙ ap (λ k. get_or bytes i 0 ∷ drop k bytes) (sym (add-one i))) ∙ counted_nonzero i count (get_or bytes i 0) (drop (i + 1) bytes) h)

pub counted_same : (i count n : ℕ) (bytes : List ℕ) → i < length bytes → get_or bytes i 0 ≡ 0 → n ≡ count → counted (i + 1) n (drop (i + 1) bytes) ≡ counted i count (drop i bytes)
counted_same i count n bytes l h e =
    ap (λ m. counted (i + 1) m (drop (i + 1) bytes)) e
    ∙ sym (ap (counted i count) (drop-cons bytes i 0 l ∙ ap (λ k. get_or bytes i 0 ∷ drop k bytes) (sym (add-one i))) ∙ counted_zero i count (get_or bytes i 0) (drop (i + 1) bytes) h)

zero_by : (b n : ℕ) (t : Bool) → (n == 0) ≡ t → (b + 256 * n == 0) ≡ (b == 0) && t
zero_by b n t h = grind (arith, nat_tests)

-- Bytes are zeros if their number is zero.
pub zero_by_number : (p : List ℕ) → (number p == 0) ≡ is_zero p
zero_by_number [] = refl
zero_by_number (b ∷ p) = zero_by b (number p) (is_zero p) (zero_by_number p)

pub zero_number : (p : List ℕ) → is_zero p ≡ true → number p ≡ 0
zero_number p h = eqb-true (number p) 0 (zero_by_number p ∙ h)
