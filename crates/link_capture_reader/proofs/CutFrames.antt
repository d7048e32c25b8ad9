-- The bytes of the cut frame, after more bytes have come.
use Rattle.std.proofs.Common.{◌≡◌, ◌≢◌, ℕ, ◌+◌, ◌-◌, ◌<◌, ◌≤◌, ◌⊎◌, inl, inr, Ok, Err, List, [], ◌++◌, length, take, drop, min, max, sym, ap, ◌∙◌, arith, length-append, append_assoc}
use Rattle.std.proofs.lemmas.Bool.{cases_lt}
use Rattle.std.proofs.lemmas.List.{append-nil, drop_all, drop-drop, length-drop, length-take, take-append-drop, take-append-le, take_all, take_at}
use Rattle.std.proofs.Math.Seq.{take-add, take-append-add, drop-append-add}
use borrow.Rule.Slice.PartMut.{put_mid}
use Rattle.link_capture_grammar.specs.Body.{link_body}
use Rattle.link_capture_grammar.specs.declared.fault.FaultKind.{FaultKind}
use Rattle.link_capture_grammar.specs.declared.fault.FaultKind.TheVariants.{Cut}
use Rattle.netlink_packet_core_grammar.specs.Attributes.{nla_align}
use Rattle.netlink_packet_core_grammar.specs.Numbers.{u32_at}
use Rattle.netlink_packet_core_grammar.specs.Laws.{NumbersAreIndependent}
use Rattle.netlink_packet_core_grammar.specs.Frames.{frame_length}
use Rattle.link_capture_grammar.specs.Captures.{first_frame, HeaderIsAllowed}
use Rattle.link_capture_grammar.specs.Laws.{FramesAreIndependent}

-- two appended strings, as one
pub two_steps : (old piece one two : List ℕ) (m n : ℕ) → one ≡ old ++ take m piece → two ≡ one ++ take n (drop m piece) → two ≡ old ++ take (m + n) piece
two_steps old piece one two m n e f =
    f ∙ ap (λ x. x ++ take n (drop m piece)) e ∙ append_assoc old (take m piece) (take n (drop m piece)) ∙ ap (λ x. old ++ x) (sym (take-add m n piece))

-- A cut frame of 16 bytes or more, which was filled to exactly 16 at first, has a length in its header that is within
-- the limit and more than its bytes.
pub header_exact : NumbersAreIndependent → FramesAreIndependent link_body → (limit : ℕ) (old new : List ℕ) → first_frame link_body limit old ≡ Err Cut → length new ≤ max 16 (length old) → (more : List ℕ) → new ≡ old ++ more → (length new ≤ 16) ⊎ ((u32_at 0 new ≡ u32_at 0 old) × (16 ≤ u32_at 0 old) × (u32_at 0 old ≤ limit) × (length new < u32_at 0 old))
header_exact numbers frames limit old new h le more e =
    elim (frames.cut limit old h) [
      | inl a ↦ inl (omega arith)
      | inr a ↦
          let n : u32_at 0 new ≡ u32_at 0 old = ap (u32_at 0) e ∙ numbers.four_bytes old more (omega (arith, a.header)) in
          inr (n, a.low, a.high, omega (arith, a.header, a.short))
    ]

-- a frame whose length is known, and is there, isn't cut
pub not_cut_short : FramesAreIndependent link_body → (limit : ℕ) (c : List ℕ) → 16 ≤ length c → (u32_at 0 c < 16) ⊎ (limit < u32_at 0 c) ⊎ (u32_at 0 c ≤ length c) → first_frame link_body limit c ≢ Err Cut
not_cut_short frames limit c h w e =
    elim (frames.cut limit c e) [
      | inl a ↦ omega arith
      | inr a ↦ elim w [ inl b ↦ omega (arith, a.low) | inr b ↦ elim b [ inl d ↦ omega (arith, a.high) | inr d ↦ omega (arith, a.short) ] ]
    ]

-- the first n bytes of two joined strings are the first of the one, and as many of the other as are missing
joined_prefix : (k p : List ℕ) (f n : ℕ) → f ≡ min (length k) n → take n (k ++ p) ≡ take f k ++ take (n - f) p
joined_prefix k p f n e =
    elim (cases_lt n (length k)) [
      | inl l ↦
          let f_is : f ≡ n = omega (arith, e, l) in
          let none : n - f ≡ 0 = omega (arith, f_is) in
          take-append-le n k p (omega (arith, l)) ∙ sym (append-nil (take n k)) ∙ ap (λ m. take m k ++ take 0 p) (sym f_is) ∙ ap (λ m. take f k ++ take m p) (sym none)
      | inr l ↦
          let f_is : f ≡ length k = omega (arith, e, l) in
          let all : n ≡ length k + (n - f) = omega (arith, f_is, l) in
          ap (λ m. take m (k ++ p)) all ∙ take-append-add k p (n - f) ∙ ap (λ x. x ++ take (n - f) p) (sym (take_all f k (omega (arith, f_is))))
    ]

pub filled : (k p target one two : List ℕ) (f : ℕ) → f ≡ min (length k) (length target) → length target ≤ length k + length p → one ≡ take f k → two ≡ take (length target - f) p → put_mid f (length target - f) (one ++ drop f target) two ≡ take (length target) (k ++ p)
filled k p target one two f e l g h =
    let n = length target in
    let size : length one ≡ f = ap length g ∙ length-take f k ∙ omega (arith, e) in
    let rest : drop (n - f) (drop f (one ++ drop f target)) ≡ [] = drop_all (n - f) (drop f (one ++ drop f target)) (omega (arith, length-drop f (one ++ drop f target), length-append one (drop f target), length-drop f target, size)) in
    ap (λ x. x ++ (two ++ drop (n - f) (drop f (one ++ drop f target)))) (take_at one (drop f target) f size)
    ∙ ap (λ x. one ++ (two ++ x)) rest ∙ ap (λ x. one ++ x) (append-nil two) ∙ ap (λ x. x ++ two) g ∙ ap (λ x. take f k ++ x) h
    ∙ sym (joined_prefix k p f n e)

-- a whole header with a length that a frame may have isn't refused, whatever follows
pub header_is_allowed : NumbersAreIndependent → (limit : ℕ) (c : List ℕ) → 16 ≤ length c → 16 ≤ frame_length (take 16 c) → frame_length (take 16 c) ≤ limit → HeaderIsAllowed limit c
header_is_allowed numbers limit c l low high =
    let n : frame_length c ≡ frame_length (take 16 c) = ap frame_length (sym (take-append-drop 16 c)) ∙ numbers.four_bytes (take 16 c) (drop 16 c) (omega (arith, length-take 16 c)) in
    inr (omega (arith, low, n), omega (arith, high, n))

pub header_cut : NumbersAreIndependent → FramesAreIndependent link_body → (limit : ℕ) (c : List ℕ) → 16 ≤ length c → first_frame link_body limit (take 16 c) ≡ Err Cut → HeaderIsAllowed limit c
header_cut numbers frames limit c l h =
    elim (frames.cut limit (take 16 c) h) [
      | inl a ↦ absurd (omega (arith, length-take 16 c, a))
      | inr a ↦ header_is_allowed numbers limit c l a.low a.high
    ]

pub header_refused : FramesAreIndependent link_body → (limit : ℕ) (c : List ℕ) (kind : FaultKind) → kind ≢ Cut → first_frame link_body limit (take 16 c) ≡ Err kind → first_frame link_body limit c ≡ Err kind
header_refused frames limit c kind n h =
    ap (first_frame link_body limit) (sym (take-append-drop 16 c)) ∙ frames.unchanged_by_more limit (take 16 c) (drop 16 c) (λ e. n cc) ∙ h

-- the bytes that were moved, and those that weren't
pub whole : (old piece new : List ℕ) (m : ℕ) → new ≡ old ++ take m piece → old ++ piece ≡ new ++ drop m piece
whole old piece new m e =
    ap (λ x. old ++ x) (sym (take-append-drop m piece)) ∙ sym (append_assoc old (take m piece) (drop m piece)) ∙ ap (λ x. x ++ drop m piece) (sym e)

-- the frame that is whole now
pub record Completed (limit : ℕ) (old piece new : List ℕ) (m claimed : ℕ) (text : List ℕ) : Type 0 where
  pub prefix_is : first_frame link_body limit (old ++ piece) ≡ Ok (claimed, text)
  pub size : length new ≡ claimed
  pub total : length (old ++ piece) ≡ claimed + (length piece - m)
  pub left : drop (nla_align claimed) (old ++ piece) ≡ drop (m + (nla_align claimed - claimed)) piece

pub completed : FramesAreIndependent link_body → (limit : ℕ) (old piece new : List ℕ) (m claimed : ℕ) (text : List ℕ) → new ≡ old ++ take m piece → m ≤ length piece → length new ≤ max 16 (u32_at 0 new) → first_frame link_body limit new ≡ Ok (claimed, text) → Completed limit old piece new m claimed text
completed frames limit old piece new m claimed text e l x h =
    let a = frames.accepted limit new (claimed, text) h in
    let w = whole old piece new m e in
    let size : length new ≡ claimed = omega (arith, a.is, a.low, a.whole) in
    let total : length (old ++ piece) ≡ claimed + (length piece - m) = ap length w ∙ length-append new (drop m piece) ∙ omega (arith, length-drop m piece) in
    let reach : nla_align claimed ≡ length new + (nla_align claimed - claimed) = omega arith in
    record {
      prefix_is = ap (first_frame link_body limit) w ∙ frames.unchanged_by_more limit new (drop m piece) (λ q. cc) ∙ h;
      size = size;
      total = total;
      left = ap (drop (nla_align claimed)) w ∙ ap (λ n. drop n (new ++ drop m piece)) reach ∙ drop-append-add new (drop m piece) (nla_align claimed - claimed) ∙ drop-drop (nla_align claimed - claimed) m piece;
    }
