-- The bytes of a string that stand for themselves.
use Rattle.std.proofs.Common.{◌≡◌, ◌+◌, ◌++◌, ℕ, suc, true, false, cond, refl, sym, ap, ◌∙◌, List, [], ◌∷◌, take, drop, flat_map, arith}
use Rattle.std.specs.List.{prefix_len}
use Rattle.link_lines_json.specs.Runs.{is_simple}
use Rattle.link_lines_json.specs.Strings.{escaped}

pub simple_alone : (c : ℕ) → is_simple c ≡ true → escaped c ≡ c ∷ []
simple_alone c h = grind arith

simple_step : (c n : ℕ) (t : List ℕ) → escaped c ≡ c ∷ [] → take n t ++ flat_map escaped (drop n t) ≡ flat_map escaped t → take (1 + n) (c ∷ t) ++ flat_map escaped (drop (1 + n) (c ∷ t)) ≡ flat_map escaped (c ∷ t)
simple_step c n t e h =
    ap (λ m. take m (c ∷ t) ++ flat_map escaped (drop m (c ∷ t))) {x = 1 + n} {y = suc n} (omega arith)
    ∙ ap (λ u. c ∷ u) h ∙ sym (ap (λ x. x ++ flat_map escaped t) e)

-- The simple bytes at its start are those of the string.
pub simple_first : (t : List ℕ) → take (prefix_len is_simple t) t ++ flat_map escaped (drop (prefix_len is_simple t) t) ≡ flat_map escaped t
simple_first [] = refl
simple_first (c ∷ t) =
    let n = prefix_len is_simple t in
    elim (is_simple c) as (λ b. is_simple c ≡ b → take (cond b (1 + n) 0) (c ∷ t) ++ flat_map escaped (drop (cond b (1 + n) 0) (c ∷ t)) ≡ flat_map escaped (c ∷ t)) [
      | true ↦ (λ e. simple_step c n t (simple_alone c e) (simple_first t))
      | false ↦ (λ e. refl)
    ] refl
