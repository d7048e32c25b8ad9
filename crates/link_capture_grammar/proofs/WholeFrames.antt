-- Whole frames, one after the other.
use Rattle.std.proofs.Common.{◌≡◌, ℕ, zero, suc, ◌≤◌, Bool, true, false, min, List, [], ◌∷◌, length, take, drop, refl, sym, ap, ◌∙◌, arith, length-drop}
use Rattle.std.specs.Prelude.{◌&&◌, nat_le}
use Rattle.std.proofs.lemmas.Bool.{and_from, and_parts, le-leb, leb-true}
use Rattle.std.proofs.lemmas.List.{length-take, take-append-drop}
use Rattle.netlink_packet_core_grammar.specs.Attributes.{nla_align}
use Rattle.netlink_packet_core_grammar.specs.Frames.{BeginsWithFrame, frame_length, begins_with_frame}
use Rattle.netlink_packet_core_grammar.specs.Numbers.{u32_at}
use Rattle.netlink_packet_core_grammar.proofs.Numbers.{u32_at-append}
use Rattle.link_capture_grammar.specs.WholeFrames.{next_whole, whole_frames, whole_within}

-- a whole frame has a length of at least 16 and of at most its bytes
pub length_of : (c : List ℕ) → begins_with_frame c ≡ true → (16 ≤ frame_length c) × (frame_length c ≤ length c)
length_of c h =
    let p = and_parts (nat_le 16 (length c)) (nat_le 16 (frame_length c) && nat_le (frame_length c) (length c)) h in
    let q = and_parts (nat_le 16 (frame_length c)) (nat_le (frame_length c) (length c)) p.1 in
    (leb-true 16 (frame_length c) q.0, leb-true (frame_length c) (length c) q.1)

pub frame_of_test : (c : List ℕ) → begins_with_frame c ≡ true → BeginsWithFrame c
frame_of_test c h =
    let p = and_parts (nat_le 16 (length c)) (nat_le 16 (frame_length c) && nat_le (frame_length c) (length c)) h in
    record { has_header = leb-true 16 (length c) p.0; covers_header = (length_of c h).0; within = (length_of c h).1 }

pub is_frame_of : (c : List ℕ) → BeginsWithFrame c → begins_with_frame c ≡ true
is_frame_of c f =
    and_from (nat_le 16 (length c)) (nat_le 16 (frame_length c) && nat_le (frame_length c) (length c)) (le-leb 16 (length c) f.has_header)
    (and_from (nat_le 16 (frame_length c)) (nat_le (frame_length c) (length c)) (le-leb 16 (frame_length c) f.covers_header) (le-leb (frame_length c) (length c) f.within))

-- the length of what is after a whole frame
shorter : (c : List ℕ) (n : ℕ) → begins_with_frame c ≡ true → length c ≤ suc n → length (drop (nla_align (frame_length c)) c) ≤ n
shorter c n h l = omega (arith, (length_of c h).0, (length_of c h).1, l, length-drop (nla_align (frame_length c)) c)

-- More frames than there are bytes change nothing.
enough : (n m : ℕ) (c : List ℕ) → length c ≤ n → length c ≤ m → whole_within n c ≡ whole_within m c
unfolding whole_within
enough n m [] l k = refl
enough zero m (b ∷ c) l k = absurd (omega arith)
enough (suc n) zero (b ∷ c) l k = absurd (omega arith)
enough (suc n) (suc m) (b ∷ c) l k =
    let x = b ∷ c in
    elim (begins_with_frame x) as (λ t. begins_with_frame x ≡ t → next_whole t x (whole_within n) ≡ next_whole t x (whole_within m)) [
      | true ↦ (λ h. ap (λ y. next_whole true x (λ _. y)) (enough n m (drop (nla_align (frame_length x)) x) (shorter x n h l) (shorter x m h k)))
      | false ↦ (λ h. refl)
    ] refl

-- The first whole frame, and those of the bytes after it.
pub whole_step : (c : List ℕ) → begins_with_frame c ≡ true → whole_frames c ≡ next_whole true c whole_frames
unfolding whole_within
whole_step [] h = absurd cc
whole_step (b ∷ c) h =
    let x = b ∷ c in
    let rest = drop (nla_align (frame_length x)) x in
    ap (λ t. next_whole t x (whole_within (length c))) h
    ∙ ap (λ y. next_whole true x (λ _. y)) (enough (length c) (length rest) rest (shorter x (length c) h (omega arith)) (omega arith))

pub whole_stop : (c : List ℕ) → begins_with_frame c ≡ false → whole_frames c ≡ record { frames = []; rest = c }
unfolding whole_within
whole_stop [] h = refl
whole_stop (b ∷ c) h = ap (λ t. next_whole t (b ∷ c) (whole_within (length c))) h

-- Induction over frames: a property holds for all bytes if it holds for bytes without a whole frame, and for a frame
-- whenever it holds for what follows.
module _ (P : List ℕ → Type 0) (none : (c : List ℕ) → begins_with_frame c ≡ false → P c) (more : (c : List ℕ) → begins_with_frame c ≡ true → P (drop (nla_align (frame_length c)) c) → P c) where
  within : (n : ℕ) (c : List ℕ) (b : Bool) → begins_with_frame c ≡ b → length c ≤ n → P c
  within n c false e l = none c e
  within zero c true e l = let bounds = length_of c e in absurd (omega (arith, bounds.0, bounds.1, l))
  within (suc n) c true e l =
      let rest = drop (nla_align (frame_length c)) c in
      more c e (within n rest (begins_with_frame rest) refl (shorter c n e l))

  pub by_first_frames : (c : List ℕ) → P c
  by_first_frames c = within (length c) c (begins_with_frame c) refl (omega arith)

-- The bytes of a whole frame, with padding or not, have its length.
pub own_length : (c : List ℕ) (n : ℕ) → begins_with_frame c ≡ true → frame_length c ≤ n → frame_length (take n c) ≡ frame_length c
own_length c n h l =
    let bounds = length_of c h in
    let size : length (take n c) ≡ min n (length c) = length-take n c in
    sym (ap (u32_at 0) (sym (take-append-drop n c)) ∙ u32_at-append (take n c) (drop n c) (omega (arith, size, bounds.0, bounds.1, l)))
