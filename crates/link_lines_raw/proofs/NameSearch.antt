-- The first name in tables.
use Rattle.std.proofs.Common.{◌≡◌, ℕ, zero, suc, ◌+◌, ◌<◌, ◌≤◌, List, [], ◌∷◌, Option, Some, None, ◌⊎◌, inl, inr, refl, ap, subst, ◌∙◌, arith}
use Rattle.std.specs.Prelude.{option_map}
use Rattle.std.proofs.lemmas.Bool.{cases_lt}
use Rattle.link_lines_raw.specs.Names.{NameRowOf, named_of, rows_in_code}
use Rattle.link_lines_raw.specs.NameSearch.{first_name, name_if, named_in, named_below}

-- ---- rows in code

row_in_code : {N A B : Type 0} (f : N → List ℕ) (g : A → B) (w : List ℕ) (o : Option (N × A)) → name_if f w o ≡ name_if (λ name. name) w (option_map (named_of f g) o)
row_in_code f g w None = refl
row_in_code f g w (Some n) = refl

-- The first name in rows in code, in terms of the rows that they represent.
pub in_code : {N A B : Type 0} (f : N → List ℕ) (g : A → B) (w : List ℕ) (ts : List (ℕ × Option (N × A))) → named_in f w ts ≡ named_in (λ name. name) w (rows_in_code f g ts)
in_code f g w [] = refl
in_code f g w (t ∷ ts) = ap (λ o. first_name o (named_in f w ts)) (row_in_code f g w t.1) ∙ ap (first_name (name_if (λ name. name) w (option_map (named_of f g) t.1))) (in_code f g w ts)

-- ---- tables one after the other

pub none_found : {A : Type 0} (rows : ℕ → List (NameRowOf A)) (w : List ℕ) (n : ℕ) → named_below rows w n ≡ None → named_in (λ name. name) w (rows n) ≡ None → named_below rows w (n + 1) ≡ None
none_found rows w n h e = ap (named_below rows w) {x = n + 1} {y = suc n} (omega arith) ∙ ap (λ o. first_name o (named_in (λ name. name) w (rows n))) h ∙ e

found_here : {A : Type 0} (rows : ℕ → List (NameRowOf A)) (w name : List ℕ) (n : ℕ) → named_below rows w n ≡ None → named_in (λ name. name) w (rows n) ≡ Some name → named_below rows w (suc n) ≡ Some name
found_here rows w name n h e = ap (λ o. first_name o (named_in (λ name. name) w (rows n))) h ∙ e

found_by : {A : Type 0} (rows : ℕ → List (NameRowOf A)) (w name : List ℕ) (n count : ℕ) → n < suc count → named_below rows w n ≡ None → named_in (λ name. name) w (rows n) ≡ Some name → (n < count → named_below rows w count ≡ Some name) → (n < count) ⊎ (count ≤ n) → named_below rows w (suc count) ≡ Some name
found_by rows w name n count l h e more (inl less) = ap (λ o. first_name o (named_in (λ name. name) w (rows count))) (more less)
found_by rows w name n count l h e more (inr last) = let same : n ≡ count = omega (arith, l, last) in subst (λ k. named_below rows w (suc k) ≡ Some name) same (found_here rows w name n h e)

-- The name in the first table that has one.
pub found : {A : Type 0} (rows : ℕ → List (NameRowOf A)) (w name : List ℕ) (n count : ℕ) → n < count → named_below rows w n ≡ None → named_in (λ name. name) w (rows n) ≡ Some name → named_below rows w count ≡ Some name
found rows w name n zero l h e = absurd (omega (arith, l))
found rows w name n (suc count) l h e = found_by rows w name n count l h e (λ less. found rows w name n count less h e) (cases_lt n count)

-- A search in rows in code, in terms of the rows that they represent.
pub in_rows : {N A B : Type 0} (f : N → List ℕ) (g : A → B) (w : List ℕ) (rows : List (NameRowOf B)) (ts : List (ℕ × Option (N × A))) (r : Option N) → rows_in_code f g ts ≡ rows → option_map f r ≡ named_in f w ts → option_map f r ≡ named_in (λ name. name) w rows
in_rows f g w rows ts r e h = h ∙ in_code f g w ts ∙ ap (named_in (λ name. name) w) e
