-- The row that is found is the entry of the table that the rows build.
use Rattle.std.proofs.Common.{◌≡◌, ℕ, zero, suc, ◌+◌, ◌<◌, ◌≤◌, Bool, true, List, [], ◌∷◌, length, get_or, None, refl, sym, ap, ◌∙◌, arith}
use Rattle.std.specs.Prelude.{◌&&◌, ◌==◌}
use Rattle.std.specs.List.{list_all}
use Rattle.std.proofs.lemmas.Bool.{and_parts, eqb-true, eq-eqb, ne_eqb}
use Rattle.attribute_tables_grammar.specs.LookUps.{line_at}
use Rattle.attribute_tables_grammar.specs.Tables.{Payload, Table}
use Rattle.link_tables.specs.declared.rows.Row.{Row}
use Rattle.link_tables.specs.declared.rows.Row.TheVariants.{Listed, Unlisted}
use Rattle.link_tables.specs.Rows.{kind_of, are_consecutive, are_dense, build, line_of}

-- if the first row's kind is n
from_first : (rs : List Row) (d : Row) (n : ℕ) → n ≡ kind_of (get_or rs 0 d) → are_dense rs ≡ true → are_consecutive n rs ≡ true
from_first [] d n e h = refl
from_first (r ∷ rs) d n e h = ap (λ m. are_consecutive m (r ∷ rs)) e ∙ ap (λ b. b && are_consecutive (suc (kind_of r)) rs) (eq-eqb (kind_of r) (kind_of r) refl) ∙ h

-- the row at index j has the kind n + j
kind_at : (rs : List Row) (n j : ℕ) (d : Row) → are_consecutive n rs ≡ true → j < length rs → kind_of (get_or rs j d) ≡ n + j
kind_at [] n j d h l = absurd (omega arith)
kind_at (r ∷ rs) n zero d h l =
    let a = and_parts (kind_of r == n) (are_consecutive (suc n) rs) h in
    let f : kind_of r ≡ n = eqb-true (kind_of r) n a.0 in
    omega (arith, f)
kind_at (r ∷ rs) n (suc j) d h l =
    let a = and_parts (kind_of r == n) (are_consecutive (suc n) rs) h in
    let i : kind_of (get_or rs j d) ≡ suc n + j = kind_at rs (suc n) j d a.1 (omega arith) in
    omega (arith, i)

pub kind_at_index : (rs : List Row) (d other : Row) (n j k : ℕ) → n ≡ kind_of (get_or rs 0 d) → are_dense rs ≡ true → k ≡ n + j → j < length rs → kind_of (get_or rs j other) ≡ k
kind_at_index rs d other n j k e h m l = kind_at rs n j other (from_first rs d n e h) l ∙ sym m

module _ (tables : ℕ → Table) (info : Payload) where
  -- removing the first of consecutive rows doesn't change the entries of other kinds
  following_first : (r : Row) (rs : List Row) (n k : ℕ) → (kind_of r ≡ k → ⊥) → line_at (build tables info rs) k ≡ line_at (build tables info (r ∷ rs)) k
  following_first (Listed m b held) rs n k q = simp (ne_eqb k m (λ e. q (sym e)))
  following_first (Unlisted m) rs n k q = refl

  -- kinds below the first row or above the last one aren't listed
  outside : (rs : List Row) (n k : ℕ) → are_consecutive n rs ≡ true → (n ≤ k → n + length rs ≤ k) → None ≡ line_at (build tables info rs) k
  outside [] n k h l = refl
  outside (r ∷ rs) n k h l =
      let a = and_parts (kind_of r == n) (are_consecutive (suc n) rs) h in
      let e = eqb-true (kind_of r) n a.0 in
      outside rs (suc n) k a.1 (λ m. omega arith) ∙ following_first r rs n k (λ x. omega arith)

  first : (r : Row) (rs : List Row) (n k : ℕ) → are_consecutive (suc n) rs ≡ true → kind_of r ≡ k → k ≡ n → line_of tables info r ≡ line_at (build tables info (r ∷ rs)) k
  first (Listed m b held) rs n k h e f = simp (eq-eqb k m (sym e))
  first (Unlisted m) rs n k h e f = outside rs (suc n) k h (λ l. omega arith)

  -- the row at index j is that of the kind n + j
  at_index : (rs : List Row) (n j k : ℕ) (d : Row) → are_consecutive n rs ≡ true → j < length rs → k ≡ n + j → line_of tables info (get_or rs j d) ≡ line_at (build tables info rs) k
  at_index [] n j k d h l e = absurd (omega arith)
  at_index (r ∷ rs) n zero k d h l e =
      let a = and_parts (kind_of r == n) (are_consecutive (suc n) rs) h in
      let f = eqb-true (kind_of r) n a.0 in
      first r rs n k a.1 (omega arith) (omega arith)
  at_index (r ∷ rs) n (suc j) k d h l e =
      let a = and_parts (kind_of r == n) (are_consecutive (suc n) rs) h in
      let f = eqb-true (kind_of r) n a.0 in
      at_index rs (suc n) j k d a.1 (omega arith) (omega arith) ∙ following_first r rs n k (λ x. omega arith)

  pub line_outside : (rs : List Row) (d : Row) (n k : ℕ) → n ≡ kind_of (get_or rs 0 d) → are_dense rs ≡ true → (n ≤ k → n + length rs ≤ k) → None ≡ line_at (build tables info rs) k
  line_outside rs d n k e h l = outside rs n k (from_first rs d n e h) l

  pub line_at_index : (rs : List Row) (d other : Row) (n j k : ℕ) → n ≡ kind_of (get_or rs 0 d) → are_dense rs ≡ true → k ≡ n + j → j < length rs → line_of tables info (get_or rs j other) ≡ line_at (build tables info rs) k
  line_at_index rs d other n j k e h m l = at_index rs n j k other (from_first rs d n e h) l m

-- a property of each list, and of the empty one, is one of the list at any index
pub all_at : {A : Type 0} (f : A → Bool) (xs : List A) (n : ℕ) (d : A) → list_all f xs ≡ true → f d ≡ true → f (get_or xs n d) ≡ true
all_at f [] n d h e = e
all_at f (x ∷ xs) zero d h e = (and_parts (f x) (list_all f xs) h).0
all_at f (x ∷ xs) (suc n) d h e = all_at f xs n d (and_parts (f x) (list_all f xs) h).1 e
