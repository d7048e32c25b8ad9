-- The row at a kind's index is that of the kind.
use Rattle.std.proofs.Common.{◌≡◌, ℕ, zero, suc, ◌+◌, ◌-◌, ◌<◌, ◌≤◌, true, cond, List, [], ◌∷◌, length, get_or, None, Option, refl, sym, ap, ◌∙◌, arith}
use Rattle.std.specs.Prelude.{◌&&◌, ◌==◌}
use Rattle.std.proofs.lemmas.Bool.{and_parts, eqb-true, eq-eqb, ne_eqb}
use Rattle.link_lines_values.specs.DenseRows.{are_dense, find, are_dense_from}

module _ {A : Type 0} where
  other : (t : ℕ × Option A) (ts : List (ℕ × Option A)) (k : ℕ) → (t.0 ≡ k → ⊥) → find k ts ≡ find k (t ∷ ts)
  other t ts k n = sym (ap (λ c. cond c t.1 (find k ts)) (ne_eqb t.0 k n))

  below : (ts : List (ℕ × Option A)) (n k : ℕ) → are_dense_from n ts ≡ true → k < n → None ≡ find k ts
  below [] n k h l = refl
  below (t ∷ ts) n k h l =
      let a = and_parts (t.0 == n) (are_dense_from (suc n) ts) h in
      let e = eqb-true t.0 n a.0 in
      below ts (suc n) k a.1 (omega (arith, l)) ∙ other t ts k (λ x. omega (arith, e, l, x))

  dense_rows : (ts : List (ℕ × Option A)) (n j : ℕ) (d : ℕ × Option A) → are_dense_from n ts ≡ true → j < length ts → (get_or ts j d).1 ≡ find (n + j) ts
  dense_rows [] n j d h l = absurd (omega arith)
  dense_rows (t ∷ ts) n zero d h l =
      let e = eqb-true t.0 n (and_parts (t.0 == n) (are_dense_from (suc n) ts) h).0 in
      sym (ap (λ c. cond c t.1 (find (n + 0) ts)) (eq-eqb t.0 (n + 0) (omega (arith, e))))
  dense_rows (t ∷ ts) n (suc j) d h l =
      let a = and_parts (t.0 == n) (are_dense_from (suc n) ts) h in
      let e = eqb-true t.0 n a.0 in
      let k : suc n + j ≡ n + suc j = omega arith in
      dense_rows ts (suc n) j d a.1 (omega (arith, l)) ∙ ap (λ m. find m ts) k ∙ other t ts (n + suc j) (λ x. omega (arith, e, x))

  past : (ts : List (ℕ × Option A)) (n k : ℕ) → are_dense_from n ts ≡ true → n + length ts ≤ k → None ≡ find k ts
  past [] n k h l = refl
  past (t ∷ ts) n k h l =
      let a = and_parts (t.0 == n) (are_dense_from (suc n) ts) h in
      let e = eqb-true t.0 n a.0 in
      past ts (suc n) k a.1 (omega (arith, l)) ∙ other t ts k (λ x. omega (arith, e, l, x))

  -- The same statement, with n the first row's kind.
  from_first : (ts : List (ℕ × Option A)) (d : ℕ × Option A) (n : ℕ) → n ≡ (get_or ts 0 d).0 → are_dense ts ≡ true → are_dense_from n ts ≡ true
  from_first [] d n e h = refl
  from_first (t ∷ ts) d n e h = ap (λ m. are_dense_from m (t ∷ ts)) e ∙ ap (λ b. b && are_dense_from (suc t.0) ts) (eq-eqb t.0 t.0 refl) ∙ h

  pub none_in : (ts : List (ℕ × Option A)) (k : ℕ) → length ts ≡ 0 → None ≡ find k ts
  none_in [] k l = refl
  none_in (t ∷ ts) k l = absurd (omega arith)

  pub none_below : (ts : List (ℕ × Option A)) (d : ℕ × Option A) (n k : ℕ) → n ≡ (get_or ts 0 d).0 → are_dense ts ≡ true → k < n → None ≡ find k ts
  none_below ts d n k e h l = below ts n k (from_first ts d n e h) l

  pub found_at : (ts : List (ℕ × Option A)) (d e : ℕ × Option A) (n k : ℕ) → n ≡ (get_or ts 0 e).0 → are_dense ts ≡ true → n ≤ k → k - n < length ts → (get_or ts (k - n) d).1 ≡ find k ts
  found_at ts d b n k e h m l =
      let at : n + (k - n) ≡ k = omega (arith, m) in
      dense_rows ts n (k - n) d (from_first ts b n e h) l ∙ ap (λ m. find m ts) at

  pub none_past : (ts : List (ℕ × Option A)) (d : ℕ × Option A) (n k : ℕ) → n ≡ (get_or ts 0 d).0 → are_dense ts ≡ true → n ≤ k → length ts ≤ k - n → None ≡ find k ts
  none_past ts d n k e h m l = past ts n k (from_first ts d n e h) (omega (arith, m, l))
