-- The loop over the frames of some bytes.
use Rattle.std.proofs.Common.{◌≡◌, ℕ, ◌+◌, ◌-◌, ◌≤◌, true, List, [], ◌++◌, length, take, drop, min, sym, ap, ◌∙◌, append_assoc, append-nil, arith}
use Rattle.std.proofs.lemmas.List.{length-append, length-take-le, length-drop, take_min, drop_min, take_all, drop_all}
use Rattle.std.proofs.Math.Seq.{take-append-add, drop-append-add}
use borrow.Rule.Slice.PartMut.{put_mid, mid_of}
use Rattle.netlink_packet_core_grammar.specs.Attributes.{nla_align}
use Rattle.netlink_packet_core_grammar.specs.Frames.{frame_length, begins_with_frame}
use Rattle.link_capture_numbers.specs.Cleared.{first_frame_cleared, numbers_cleared}
use Rattle.link_capture_grammar.proofs.WholeFrames.{length_of}
use Rattle.link_capture_numbers.proofs.Steps.{whole}
use Rattle.link_capture_numbers.proofs.Zeros.{cleared_first}

-- the bytes after an offset are replaced by others
pub put_rest : (at : ℕ) (text new : List ℕ) → at ≤ length text → put_mid at (length text - at) text new ≡ take at text ++ new
put_rest at text new h =
    let size = length-drop at text in
    let none : drop (length text - at) (drop at text) ≡ [] = drop_all (length text - at) (drop at text) (omega (arith, size)) in
    ap (λ z. take at text ++ (new ++ z)) none ∙ ap (λ z. take at text ++ z) (append-nil new)

pub put_mid_rest : (at : ℕ) (text : List ℕ) → at ≤ length text → mid_of at (length text - at) text ≡ drop at text
put_mid_rest at text h = take_all (length text - at) (drop at text) (omega (arith, length-drop at text))

-- one more frame is cleared
pub stepped : (at n m : ℕ) (text whole' : List ℕ) → at ≤ length text → begins_with_frame (drop at text) ≡ true → n ≡ nla_align (frame_length (drop at text)) → m ≡ min n (length text - at)
    → take at text ++ numbers_cleared (drop at text) ≡ whole'
    → take (at + m) (take at text ++ first_frame_cleared (drop at text)) ++ numbers_cleared (drop (at + m) (take at text ++ first_frame_cleared (drop at text))) ≡ whole'
stepped at n m text whole' h f e i w =
    let rest : List ℕ = drop at text in
    let g : List ℕ = first_frame_cleared rest in
    let bounds = length_of rest f in
    let facts = cleared_first rest bounds.0 bounds.1 in
    let la : length (take at text) ≡ at = length-take-le at text h in
    let size : length g ≡ length text - at = facts.size ∙ length-drop at text in
    let small : m ≡ min n (length g) = i ∙ ap (min n) (sym size) in
    let taken : take (at + m) (take at text ++ g) ≡ take at text ++ take n g =
    ap (λ k. take (k + m) (take at text ++ g)) (sym la) ∙ take-append-add (take at text) g m ∙ ap (λ z. take at text ++ z) (ap (λ k. take k g) small ∙ take_min n g) in
    let following : frame_length rest ≤ n = omega (arith, e) in
    let left : drop (at + m) (take at text ++ g) ≡ drop n rest =
    ap (λ k. drop (k + m) (take at text ++ g)) (sym la) ∙ drop-append-add (take at text) g m ∙ ap (λ k. drop k g) small ∙ drop_min n g ∙ facts.following n following in
    ap (λ z. z ++ numbers_cleared (drop (at + m) (take at text ++ g))) taken
    ∙ ap (λ z. (take at text ++ take n g) ++ numbers_cleared z) left
    ∙ append_assoc (take at text) (take n g) (numbers_cleared (drop n rest))
    ∙ ap (λ k. take at text ++ (take k g ++ numbers_cleared (drop k rest))) e
    ∙ sym (ap (λ z. take at text ++ z) (whole rest f))
    ∙ w

-- the number of bytes stays the same
pub kept_size : (at : ℕ) (text : List ℕ) → at ≤ length text → begins_with_frame (drop at text) ≡ true → length (take at text ++ first_frame_cleared (drop at text)) ≡ length text
kept_size at text h f =
    let rest : List ℕ = drop at text in
    let bounds = length_of rest f in
    let facts = cleared_first rest bounds.0 bounds.1 in
    let all = length-append (take at text) (first_frame_cleared rest) in
    let before = length-take-le at text h in
    let following = length-drop at text in
    let size = facts.size in
    omega (arith, all, before, following, size, h)
