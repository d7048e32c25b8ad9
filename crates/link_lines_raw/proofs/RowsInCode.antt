-- Rows in code, and what they represent.
use Rattle.std.proofs.Common.{◌≡◌, ℕ, Bool, true, false, cond, List, [], ◌∷◌, Bor, Option, Some, None, refl, ap, ◌∙◌}
use Rattle.std.specs.Prelude.{◌==◌, option_map}
use Rattle.link_lines_values.specs.DenseRows.{find}
use Rattle.link_lines_raw.specs.Names.{NameRowOf, named_of, rows_in_code}

module _ {N A B : Type 0} (f : N → List ℕ) (g : A → B) where
  picked : (b : Bool) (o : Option (N × A)) (k : ℕ) (ts : List (ℕ × Option (N × A))) → option_map (named_of f g) (find k ts) ≡ find k (rows_in_code f g ts) →
      option_map (named_of f g) (cond b o (find k ts)) ≡ cond b (option_map (named_of f g) o) (find k (rows_in_code f g ts))
  picked true o k ts h = refl
  picked false o k ts h = h

  row_in_code_at : (k : ℕ) (ts : List (ℕ × Option (N × A))) → option_map (named_of f g) (find k ts) ≡ find k (rows_in_code f g ts)
  row_in_code_at k [] = refl
  row_in_code_at k (t ∷ ts) = picked (t.0 == k) t.1 k ts (row_in_code_at k ts)

  borrowed : (r : Option (Bor (N × A))) → option_map (λ n. named_of f g n.now) r ≡ option_map (named_of f g) (option_map (λ n. n.now) r)
  borrowed None = refl
  borrowed (Some n) = refl

  -- A look-up in code, in terms of the rows that it represents.
  pub at_kind : (k : ℕ) (r : Option (Bor (N × A))) (ts : List (ℕ × Option (N × A))) (us : List (NameRowOf B)) → option_map (λ n. n.now) r ≡ find k ts → rows_in_code f g ts ≡ us → option_map (λ n. named_of f g n.now) r ≡ find k us
  at_kind k r ts us h e = borrowed r ∙ ap (option_map (named_of f g)) h ∙ row_in_code_at k ts ∙ ap (find k) e
