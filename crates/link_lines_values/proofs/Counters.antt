-- Counters, one after the other.
use Rattle.std.proofs.Common.{◌≡◌, ℕ, zero, suc, ◌+◌, ◌-◌, ◌/◌, ◌<◌, ◌≤◌, List, [], ◌∷◌, ◌++◌, codes, length, take, drop, get_or, refl, ap, ◌∙◌, arith}
use Rattle.std.specs.Prelude.{cond}
use Rattle.std.specs.Fmt.{decimal}
use Rattle.std.proofs.Math.Nat.{div-eq-sub-div, div-eq_of_lt}
use Rattle.std.proofs.lemmas.List.{length-drop}
use Rattle.link_lines_values.specs.declared.fields.FieldOf.{FieldOf}
use Rattle.link_lines_values.specs.declared.number_tables.Numbers.{Numbers}
use Rattle.link_lines_values.specs.Bytes.{is_zero}
use Rattle.link_lines_values.specs.Records.{Field, FieldShown, counter_name, counters_text, field_text, fields_of, shown_of, slots_text, title_or}

module _ {N : Type 0} (f : N → List ℕ) where
  -- The title of the field at an index.
  pub title_at : (rows : List (FieldOf N Numbers)) (d : FieldOf N Numbers) (n k : ℕ) → k < length rows → f (get_or rows k d).0 ≡ title_or (fields_of f rows) n k
  title_at [] d n k l = absurd (omega arith)
  title_at (r ∷ rows) d n zero l = refl
  title_at (r ∷ rows) d n (suc k) l = title_at rows d n k (omega arith)

  -- After the last field there is the number.
  pub title_past : (rows : List (FieldOf N Numbers)) (n k : ℕ) → length rows ≤ k → decimal n ≡ title_or (fields_of f rows) n k
  title_past [] n k l = refl
  title_past (r ∷ rows) n zero l = absurd (omega arith)
  title_past (r ∷ rows) n (suc k) l = title_past rows n k (omega arith)

  -- Counters by the rows of their fields.
  pub counters_of : (rows : List (FieldOf N Numbers)) (d : FieldOf N Numbers) (size : ℕ) (bytes : List ℕ) → 1 ≤ length rows → size ≡ (get_or rows 0 d).1 →
      codes " fields " ++ (decimal (length bytes / size) ++ slots_text size (shown_of (get_or rows 0 d).2) (fields_of f rows) 0 (length bytes / size) bytes) ≡ counters_text (fields_of f rows) bytes
  counters_of [] d size bytes h e = absurd (omega arith)
  counters_of (r ∷ rows) d size bytes h e =
      ap (λ n. codes " fields " ++ (decimal (length bytes / n) ++ slots_text n (shown_of r.2) (fields_of f (r ∷ rows)) 0 (length bytes / n) bytes)) e

-- The counter at the start, and the others.
pub slots_step : (size : ℕ) (shown : FieldShown) (fs : List Field) (i : ℕ) (p first rest : List ℕ) → 0 < size → size ≤ length p → first ≡ take size p → rest ≡ drop size p →
    cond (is_zero first) [] (field_text 61 (counter_name fs i, size, shown) first) ++ slots_text size shown fs (i + 1) (length rest / size) rest ≡ slots_text size shown fs i (length p / size) p
slots_step size shown fs i p first rest h l a b =
    let less : length rest ≡ length p - size = ap length b ∙ length-drop size p in
    let count : suc (length rest / size) ≡ length p / size = omega (arith, div-eq-sub-div {m = size} {n = length p} h l, ap (λ n. n / size) less) in
    let next : i + 1 ≡ suc i = omega arith in
    (λ t. cond (is_zero (a t)) [] (field_text 61 (counter_name fs i, size, shown) (a t)) ++ slots_text size shown fs (next t) (length rest / size) (b t))
    ∙ ap (λ k. slots_text size shown fs i k p) count

-- No counter in fewer bytes than one has.
pub slots_done : (size : ℕ) (shown : FieldShown) (fs : List Field) (i : ℕ) (p : List ℕ) → length p < size → slots_text size shown fs i (length p / size) p ≡ []
slots_done size shown fs i p l = let none : length p / size ≡ 0 = div-eq_of_lt l in ap (λ k. slots_text size shown fs i k p) none
