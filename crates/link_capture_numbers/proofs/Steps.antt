-- Numbers are cleared frame by frame.
use Rattle.std.proofs.Common.{◌≡◌, ◌≤◌, Bool, true, false, cond, min, List, ℕ, ◌++◌, length, take, drop, flat_map, inl, inr, refl, sym, ap, ◌∙◌, append_assoc, append-nil, arith}
use Rattle.std.specs.Prelude.{◌&&◌, nat_eq, nat_le}
use Rattle.std.proofs.lemmas.Bool.{cases_lt}
use Rattle.std.proofs.lemmas.List.{drop_all, length-take, take_all, take_at, take-append-drop}
use Rattle.netlink_packet_core_grammar.specs.Attributes.{nla_align}
use Rattle.netlink_packet_core_grammar.specs.Frames.{frame_length, frame_type, begins_with_frame}
use Rattle.netlink_packet_core_grammar.proofs.Numbers.{u32_at-append}
use Rattle.link_capture_grammar.specs.WholeFrames.{whole_frames}
use Rattle.link_capture_grammar.proofs.Frames.{frame_type-more}
use Rattle.link_capture_grammar.proofs.WholeFrames.{length_of, own_length, whole_step, whole_stop}
use Rattle.link_capture_numbers.specs.Cleared.{first_frame_cleared, numbers_cleared, repeats_request, zeros_at}
use Rattle.link_capture_numbers.proofs.Zeros.{cleared_first, length-zeros, repeated, zeros_before}

-- ---- the first frame followed by other bytes

first_frame_joined_by : (t more : List ℕ) (b : Bool) → 16 ≤ length t → (b ≡ true → 36 ≤ length t) → cond b (zeros_at 28 (zeros_at 8 (t ++ more))) (zeros_at 8 (t ++ more)) ≡ cond b (zeros_at 28 (zeros_at 8 t)) (zeros_at 8 t) ++ more
first_frame_joined_by t more false h q = zeros_before 8 t more (omega (arith, h))
first_frame_joined_by t more true h q =
    let size = length-zeros 8 t (omega (arith, h)) in
    let long = q refl in
    ap (zeros_at 28) (zeros_before 8 t more (omega (arith, h))) ∙ zeros_before 28 (zeros_at 8 t) more (omega (arith, size, long))

pub first_frame_joined : (t more : List ℕ) → 16 ≤ length t → (repeats_request t ≡ true → 36 ≤ length t) → repeats_request (t ++ more) ≡ repeats_request t → first_frame_cleared (t ++ more) ≡ first_frame_cleared t ++ more
unfolding first_frame_cleared
first_frame_joined t more h q e =
    ap (λ b. cond b (zeros_at 28 (zeros_at 8 (t ++ more))) (zeros_at 8 (t ++ more))) e ∙ first_frame_joined_by t more (repeats_request t) h q

-- The first frame is cleared as its bytes are.
own_cleared : (c : List ℕ) → begins_with_frame c ≡ true → first_frame_cleared (take (nla_align (frame_length c)) c) ≡ take (nla_align (frame_length c)) (first_frame_cleared c)
own_cleared c h =
    let n = nla_align (frame_length c) in
    let t : List ℕ = take n c in
    let more : List ℕ = drop n c in
    let bounds = length_of c h in
    let size : length t ≡ min n (length c) = length-take n c in
    let own : frame_length t ≡ frame_length c = own_length c n h (omega arith) in
    let headed : 16 ≤ length t = omega (arith, size, bounds.0, bounds.1) in
    let repeats : repeats_request (t ++ more) ≡ repeats_request t =
    ap (λ k. nat_eq k 2 && nat_le 36 (frame_length (t ++ more))) (frame_type-more t more headed) ∙ ap (λ k. nat_eq (frame_type t) 2 && nat_le 36 k) (u32_at-append t more (omega (arith, headed))) in
    let cut : first_frame_cleared c ≡ first_frame_cleared t ++ more =
    ap first_frame_cleared (sym (take-append-drop n c)) ∙ first_frame_joined t more headed (λ r. omega (arith, repeated t r, own, size, bounds.1)) repeats in
    let kept : length (first_frame_cleared t) ≡ length t = (cleared_first t (omega (arith, own, bounds.0)) (omega (arith, own, size, bounds.1))).size in
    sym (ap (take n) cut ∙ elim (cases_lt (length c) n) [
      | inl l ↦
          ap (λ z. take n (first_frame_cleared t ++ z)) (drop_all n c (omega (arith, l)))
          ∙ ap (take n) (append-nil (first_frame_cleared t)) ∙ take_all n (first_frame_cleared t) (omega (arith, kept, size))
      | inr l ↦ take_at (first_frame_cleared t) more n (omega (arith, kept, size, l))
    ])

-- ---- one frame after the other

pub whole : (c : List ℕ) → begins_with_frame c ≡ true → numbers_cleared c ≡ take (nla_align (frame_length c)) (first_frame_cleared c) ++ numbers_cleared (drop (nla_align (frame_length c)) c)
unfolding numbers_cleared
whole c h =
    let rest = whole_frames (drop (nla_align (frame_length c)) c) in
    ap (λ w. flat_map first_frame_cleared w.frames ++ w.rest) (whole_step c h)
    ∙ append_assoc (first_frame_cleared (take (nla_align (frame_length c)) c)) (flat_map first_frame_cleared rest.frames) rest.rest
    ∙ ap (λ z. z ++ (flat_map first_frame_cleared rest.frames ++ rest.rest)) (own_cleared c h)

pub stopped : (c : List ℕ) → begins_with_frame c ≡ false → numbers_cleared c ≡ c
unfolding numbers_cleared
stopped c h = ap (λ w. flat_map first_frame_cleared w.frames ++ w.rest) (whole_stop c h)
