-- Runs of bytes, and how one load counts them.
use Rattle.std.proofs.Common.{◌≡◌, ℕ, ◌+◌, ◌%◌, ◌^◌, ◌≤◌, Bool, not, cond, List, [], ◌∷◌, map, length, take, drop, zero, suc, min, true, false, Fits, w8, refl, ap, ap₂, ◌∙◌, arith}
use Rattle.std.proofs.lemmas.Bool.{agree_below, agree_below_at}
use Rattle.std.proofs.lemmas.Simd.{first_set_mask_l, map-map, mask_l-mod}
use Rattle.std.proofs.lemmas.List.{length-map}
use Rattle.std.specs.List.{prefix_len}
use Rattle.link_lines_parts.specs.Lines.{is_in_word}
use lib.Lanes.{Each1, mask_l, top}
use Rattle.link_lines_json.specs.Runs.{first_set, is_simple}

-- A run goes on after its first bytes.
pub run_dropped : (p : ℕ → Bool) (i : ℕ) (t : List ℕ) → i ≤ prefix_len p t → i + prefix_len p (drop i t) ≡ prefix_len p t
run_dropped p zero t h = omega arith
run_dropped p (suc i) [] h = absurd (omega (arith, h))
run_dropped p (suc i) (c ∷ t) h =
    elim (p c) as (λ b. suc i ≤ cond b (1 + prefix_len p t) 0 → suc i + prefix_len p (drop i t) ≡ cond b (1 + prefix_len p t) 0) [
      | true ↦ (λ l. omega (arith, run_dropped p i t (omega (arith, l))))
      | false ↦ (λ l. absurd (omega (arith, l)))
    ] h

-- The run of a text's first bytes.
pub run_cut : (p : ℕ → Bool) (n : ℕ) (t : List ℕ) → prefix_len p (take n t) ≡ min n (prefix_len p t)
run_cut p zero t = omega arith
run_cut p (suc n) [] = omega arith
run_cut p (suc n) (c ∷ t) =
    elim (p c) as (λ b. cond b (1 + prefix_len p (take n t)) 0 ≡ min (suc n) (cond b (1 + prefix_len p t) 0)) [
      | true ↦ omega (arith, run_cut p n t)
      | false ↦ omega arith
    ]

-- A run isn't longer than one of bytes that all pass where these do.
run_within : (p q : ℕ → Bool) (t : List ℕ) → ((c : ℕ) → p c ≡ true → q c ≡ true) → prefix_len p t ≤ prefix_len q t
run_within p q [] h = omega arith
run_within p q (c ∷ t) h =
    elim (p c) as (λ b. p c ≡ b → cond b (1 + prefix_len p t) 0 ≤ prefix_len q (c ∷ t)) [
      | true ↦ (λ e. omega (arith, run_within p q t h, ap (λ b. cond b (1 + prefix_len q t) 0) (h c e)))
      | false ↦ (λ e. omega arith)
    ] refl

simple_goes_on : (c : ℕ) → is_simple c ≡ true → is_in_word c ≡ true
simple_goes_on c h = grind arith

-- The simple bytes at the start of a word belong to it.
pub simple_in_word : (t : List ℕ) → prefix_len is_simple t + prefix_len is_in_word (drop (prefix_len is_simple t) t) ≡ prefix_len is_in_word t
simple_in_word t = run_dropped is_in_word (prefix_len is_simple t) t (run_within is_simple is_in_word t simple_goes_on)

same_run : (p q : ℕ → Bool) (v : List ℕ) → agree_below p q 256 ≡ true → Each1 (Fits w8) v → prefix_len p v ≡ prefix_len q v
same_run p q [] all fits = refl
same_run p q (x ∷ v) all fits = ap₂ (λ b n. cond b (1 + n) 0) (agree_below_at p q 256 x all fits.0.fits) (same_run p q v all fits.1)

-- If lanes computed from 8 bytes have their top bit just where a byte fails p, the lowest one ends the run.
pub run_of_load : (p : ℕ → Bool) (f : ℕ → ℕ) (v z : List ℕ) (r : ℕ) → length v ≡ 8 → Each1 (Fits w8) v → z ≡ map f v
    → r ≡ first_set (mask_l (map (top 7) z) % 2 ^ 64) → agree_below (λ x. not (top 7 (f x))) p 256 ≡ true → r ≡ prefix_len p v
run_of_load p f v z r long fits lanes found all =
    let stops : ℕ → Bool = λ x. top 7 (f x) in
    let mask = ap (λ l. mask_l l % 2 ^ 64) (ap (map (top 7)) lanes ∙ map-map (top 7) f v) ∙ mask_l-mod (map stops v) 64 (omega (arith, length-map v stops, long)) in
    found ∙ ap first_set mask ∙ first_set_mask_l stops v 8 long (omega arith) ∙ same_run (λ x. not (stops x)) p v all fits
