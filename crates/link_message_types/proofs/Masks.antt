-- A number read as a list of masks and joined again is the same number.
use Rattle.std.proofs.Common.{◌≡◌, ℕ, zero, suc, ◌+◌, ◌*◌, ◌^◌, ◌<◌, ◌≤◌, Bool, true, false, List, [], ◌∷◌, ◌++◌, length, get_or, drop, drop-cons, add-one, inl, inr, refl, sym, ap, ◌∙◌, arith}
use Rattle.std.specs.Prelude.{◌==◌, ◌⊎◌, if◌then◌else◌}
use Rattle.std.specs.Int.{bit_at}
use Rattle.std.specs.Int.Bits.{and_zero_r, or_zero_l, or_zero_r}
use Rattle.std.specs.Int.RustNames.{bit_and, bit_or}
use Rattle.std.proofs.lemmas.Bool.{cases_lt, eqb-true}
use Rattle.std.proofs.lemmas.Bool.Decides.{nat_tests}
use Rattle.std.proofs.Math.ListN.{drop_of_length-le}
use Rattle.std.proofs.lemmas.Nat.Bits.{bit_at_and, bit_at_or, bit_at-lt, and_pow, same_from_bits, bit_at_above, bit_at_ones, bit_at_ones_above, bit_at_mask_inside, bit_at_mask_below}
use Rattle.link_message_types.specs.ExtentMasks.{link_extent_mask_number, listed_link_extent_masks, set_extent_masks, other_extent_mask, link_extent_masks_of, joined_extent_masks}
use Rattle.link_message_types.specs.declared.ext_mask.LinkExtentMask.{LinkExtentMask}

-- The bits of three numbers.
or-assoc : (a b c : ℕ) → bit_or (bit_or a b) c ≡ bit_or a (bit_or b c)
or-assoc a b c = same_from_bits _ _ (λ i. omega (arith, bit_at_or (bit_or a b) c i, bit_at_or a b i, bit_at_or a (bit_or b c) i, bit_at_or b c i))

and-or : (n m t : ℕ) → bit_and n (bit_or m t) ≡ bit_or (bit_and n m) (bit_and n t)
and-or n m t = same_from_bits _ _ (λ i. omega (arith, bit_at_and n (bit_or m t) i, bit_at_or m t i, bit_at_or (bit_and n m) (bit_and n t) i, bit_at_and n m i, bit_at_and n t i))

joined-append : (xs ys : List LinkExtentMask) → joined_extent_masks (xs ++ ys) ≡ bit_or (joined_extent_masks xs) (joined_extent_masks ys)
joined-append [] ys = sym (or_zero_l (joined_extent_masks ys))
joined-append (x ∷ xs) ys = ap (λ t. bit_or (link_extent_mask_number x) t) (joined-append xs ys) ∙ sym (or-assoc (link_extent_mask_number x) (joined_extent_masks xs) (joined_extent_masks ys))

-- One bit of a number is set or not.
bit_by : (n m b : ℕ) → b < 2 → bit_and n m ≡ b * m → (bit_and n m == 0) ≡ false → m ≡ bit_and n m
bit_by n m zero h p e = absurd (grind (arith, nat_tests))
bit_by n m (suc zero) h p e = omega arith
bit_by n m (suc (suc b)) h p e = absurd (omega arith)

bit_there : (n k m : ℕ) (t : Bool) → m ≡ 2 ^ k → (bit_and n m == 0) ≡ t → (if t then 0 else m) ≡ bit_and n m
bit_there n k m true p e = sym (eqb-true (bit_and n m) 0 e)
bit_there n k m false p e = bit_by n m (bit_at n k) (bit_at-lt n k) (ap (bit_and n) p ∙ and_pow n k ∙ ap (λ x. bit_at n k * x) (sym p)) e

if_joined : (t : Bool) (v : LinkExtentMask) (vs : List LinkExtentMask) → joined_extent_masks (if t then vs else v ∷ vs) ≡ bit_or (if t then 0 else link_extent_mask_number v) (joined_extent_masks vs)
if_joined true v vs = sym (or_zero_l (joined_extent_masks vs))
if_joined false v vs = refl

-- A mask of one bit joins that bit of the number.
one : (v : LinkExtentMask) (vs : List LinkExtentMask) (n k : ℕ) → link_extent_mask_number v ≡ 2 ^ k → joined_extent_masks (set_extent_masks vs n) ≡ bit_and n (joined_extent_masks vs) → joined_extent_masks (set_extent_masks (v ∷ vs) n) ≡ bit_and n (joined_extent_masks (v ∷ vs))
one v vs n k e more =
    let m = link_extent_mask_number v in
    let t = bit_and n m == 0 in
    if_joined t v (set_extent_masks vs n)
    ∙ ap (λ x. bit_or (if t then 0 else m) x) more
    ∙ ap (λ x. bit_or x (bit_and n (joined_extent_masks vs))) (bit_there n k m t e refl)
    ∙ sym (and-or n m (joined_extent_masks vs))

-- The listed masks from one on.
abbrev from_mask : ℕ → List LinkExtentMask
from_mask i = drop i listed_link_extent_masks

joined_set : (n : ℕ) → joined_extent_masks (set_extent_masks listed_link_extent_masks n) ≡ bit_and n 255
joined_set n =
    one LinkExtentMask.Vf (from_mask 1) n 0 refl
    (one LinkExtentMask.Brvlan (from_mask 2) n 1 refl
    (one LinkExtentMask.BrvlanCompressed (from_mask 3) n 2 refl
    (one LinkExtentMask.SkipStats (from_mask 4) n 3 refl
    (one LinkExtentMask.Mrp (from_mask 5) n 4 refl
    (one LinkExtentMask.CfmConfig (from_mask 6) n 5 refl
    (one LinkExtentMask.CfmStatus (from_mask 7) n 6 refl
    (one LinkExtentMask.Mst (from_mask 8) n 7 refl
    (sym (and_zero_r n)))))))))

other_by : (n : ℕ) (t : Bool) → (n == 0) ≡ t → joined_extent_masks (if t then [] else LinkExtentMask.Other n ∷ []) ≡ n
other_by n true e = sym (eqb-true n 0 e)
other_by n false e = or_zero_r n

joined-other : (n : ℕ) → joined_extent_masks (other_extent_mask n) ≡ n
joined-other n = other_by n (n == 0) refl

-- The bits of a number are those below the eighth and those from it on.
part_bits : (n i : ℕ) → n < 2 ^ 32 → bit_at (bit_or (bit_and n 255) (bit_and n 0xffffff00)) i ≡ bit_at n i
part_bits n i h = by_index (cases_lt i 8) (cases_lt i 32)
  where
    by_index : (i < 8) ⊎ (8 ≤ i) → (i < 32) ⊎ (32 ≤ i) → bit_at (bit_or (bit_and n 255) (bit_and n 0xffffff00)) i ≡ bit_at n i
    by_index (inl p) r = omega (arith, bit_at_or (bit_and n 255) (bit_and n 0xffffff00) i, bit_at_and n 255 i, bit_at_and n 0xffffff00 i, bit_at_ones 8 i p, bit_at_mask_below 8 32 i p, bit_at-lt n i)
    by_index (inr q) (inl p) = omega (arith, bit_at_or (bit_and n 255) (bit_and n 0xffffff00) i, bit_at_and n 255 i, bit_at_and n 0xffffff00 i, bit_at_ones_above 8 i q, bit_at_mask_inside 8 32 i q p, bit_at-lt n i)
    by_index (inr q) (inr r) = omega (arith, bit_at_or (bit_and n 255) (bit_and n 0xffffff00) i, bit_at_and n 255 i, bit_at_and n 0xffffff00 i, bit_at_above n 32 i h r)

two_parts : (n : ℕ) → n < 2 ^ 32 → bit_or (bit_and n 255) (bit_and n 0xffffff00) ≡ n
two_parts n h = same_from_bits _ _ (λ i. part_bits n i h)

pub masks_joined : (n : ℕ) → n < 2 ^ 32 → joined_extent_masks (link_extent_masks_of n) ≡ n
masks_joined n h =
    joined-append (set_extent_masks listed_link_extent_masks n) (other_extent_mask (bit_and n 0xffffff00))
    ∙ ap (λ x. bit_or x (joined_extent_masks (other_extent_mask (bit_and n 0xffffff00)))) (joined_set n)
    ∙ ap (λ x. bit_or (bit_and n 255) x) (joined-other (bit_and n 0xffffff00))
    ∙ two_parts n h

-- A mask joined to those before it.
pub join_step : (n r : ℕ) (ms : List LinkExtentMask) (i : ℕ) (d : LinkExtentMask) → i < length ms → r ≡ link_extent_mask_number (get_or ms i d) → bit_or n (joined_extent_masks (drop i ms)) ≡ bit_or (bit_or n r) (joined_extent_masks (drop (i + 1) ms))
join_step n r ms i d h e =
    rw add-one (ap (λ x. bit_or n (joined_extent_masks x)) (drop-cons ms i d h)
    ∙ sym (or-assoc n (link_extent_mask_number (get_or ms i d)) (joined_extent_masks (drop (suc i) ms)))
    ∙ ap (λ x. bit_or (bit_or n x) (joined_extent_masks (drop (suc i) ms))) (sym e))

pub join_end : (n : ℕ) (ms : List LinkExtentMask) (i : ℕ) → length ms ≤ i → bit_or n (joined_extent_masks (drop i ms)) ≡ n
join_end n ms i h = ap (λ x. bit_or n (joined_extent_masks x)) (drop_of_length-le ms h) ∙ or_zero_r n

pub ruleset masks = (masks_joined)
