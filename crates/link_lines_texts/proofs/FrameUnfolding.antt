-- The lines of texts are determined frame by frame.
use Rattle.std.proofs.Common.{◌≡◌, ℕ, ◌+◌, ◌^◌, ◌<◌, ◌≤◌, true, false, List, [], ◌++◌, length, take, drop, flat_map, Ok, refl, sym, ap, ◌∙◌, append_assoc, arith}
use Rattle.std.specs.Prelude.{◌&&◌, nat_le}
use Rattle.std.proofs.lemmas.Bool.{and_from, le-leb}
use Rattle.std.proofs.lemmas.List.{drop_at, length-append, take-append-le, take-take}
use Rattle.netlink_packet_core_grammar.proofs.Numbers.{from_le4}
use Rattle.netlink_packet_core_grammar.specs.Attributes.{nla_align}
use Rattle.netlink_packet_core_grammar.specs.Frames.{frame_length, frame_text, begins_with_frame}
use Rattle.netlink_packet_core_grammar.specs.Numbers.{u32_at, le4}
use Rattle.link_message_grammar.specs.Body.{link_body}
use Rattle.link_capture_grammar.specs.Captures.{first_frame, texts}
use Rattle.link_capture_grammar.proofs.EveryRule.{in_force}
use Rattle.link_capture_grammar.proofs.Frames as Frames
use Rattle.link_capture_grammar.proofs.Frames.{accepted, texts_step, texts_stop}
use Rattle.link_lines_texts.specs.Captures.{Choice, shown_lines, text_lines}
use Rattle.link_lines_texts.specs.Laws.{LinesUnfoldByFrames, LinesAreJoined}
use Rattle.link_capture_grammar.proofs.Normal.{text_length, texted}
use Rattle.link_capture_grammar.specs.WholeFrames.{whole_frames}
use Rattle.link_capture_grammar.proofs.WholeFrames.{own_length, whole_step, whole_stop}

pub whole : (o : Choice) (c : List ℕ) → begins_with_frame c ≡ true → text_lines o c ≡ shown_lines o (take (frame_length c) c) ++ text_lines o (drop (nla_align (frame_length c)) c)
unfolding text_lines
whole o c h =
    let n = nla_align (frame_length c) in
    let first = take n c in
    let own : take (frame_length first) first ≡ take (frame_length c) c =
    ap (λ m. take m first) (own_length c n h (omega arith)) ∙ take-take (frame_length c) n c (omega arith) in
    ap (λ w. flat_map (λ f. shown_lines o (take (frame_length f) f)) w.frames) (whole_step c h)
    ∙ ap (λ f. shown_lines o f ++ flat_map (λ f. shown_lines o (take (frame_length f) f)) (whole_frames (drop n c)).frames) own

pub stopped : (o : Choice) (c : List ℕ) → begins_with_frame c ≡ false → text_lines o c ≡ []
unfolding text_lines
stopped o c h = ap (λ w. flat_map (λ f. shown_lines o (take (frame_length f) f)) w.frames) (whole_stop c h)

pub by_frames : LinesUnfoldByFrames
by_frames = record { frame = whole; none = stopped }

-- ---- the text of a frame before other bytes

length_kept : (n : ℕ) (more : List ℕ) → n < 2 ^ 32 → frame_length (le4 n ++ more) ≡ n
unfolding u32_at le4
length_kept n more h = from_le4 n

-- A frame's text, followed by other bytes, begins with a whole frame.
pub record AtStart (c body r : List ℕ) : Type 0 where
  pub is : begins_with_frame (frame_text c body ++ r) ≡ true
  pub determined : frame_length (frame_text c body ++ r) ≡ 16 + length body
  pub own : take (16 + length body) (frame_text c body ++ r) ≡ take (16 + length body) (frame_text c body)
  pub rest : drop (nla_align (16 + length body)) (frame_text c body ++ r) ≡ r

pub is_at_start : (c body r : List ℕ) → 16 ≤ length c → 16 + length body < 2 ^ 32 → AtStart c body r
is_at_start c body r h b =
    let n = 16 + length body in
    let t = frame_text c body in
    let determined = text_length c body r b in
    let size : length t ≡ nla_align n = in_force.frames_are_judged.size c body h in
    let low : 16 ≤ nla_align n = omega arith in
    let high : n ≤ nla_align n = omega arith in
    let all : length (t ++ r) ≡ length t + length r = length-append t r in
    record {
      is = and_from (nat_le 16 (length (t ++ r))) (nat_le 16 (frame_length (t ++ r)) && nat_le (frame_length (t ++ r)) (length (t ++ r))) (le-leb 16 (length (t ++ r)) (omega (arith, all, size, low)))
          (and_from (nat_le 16 (frame_length (t ++ r))) (nat_le (frame_length (t ++ r)) (length (t ++ r))) (le-leb 16 (frame_length (t ++ r)) (omega (arith, determined))) (le-leb (frame_length (t ++ r)) (length (t ++ r)) (omega (arith, determined, all, size, high))));
      determined = determined;
      own = take-append-le n t r (omega (arith, size, high));
      rest = drop_at t r (nla_align n) size;
    }

pub at_start : (o : Choice) (c body r : List ℕ) → 16 ≤ length c → 16 + length body < 2 ^ 32 →
    text_lines o (frame_text c body ++ r) ≡ shown_lines o (take (16 + length body) (frame_text c body)) ++ text_lines o r
at_start o c body r h b =
    let n = 16 + length body in
    let t = frame_text c body in
    let first = is_at_start c body r h b in
    whole o (t ++ r) first.is ∙ rw (first.determined, first.own, first.rest) refl

-- ---- texts before other bytes

module _ (o : Choice) (limit : ℕ) (l : limit < 2 ^ 32) where
  frame_first : (c : List ℕ) (frame : ℕ × List ℕ) → first_frame link_body limit c ≡ Ok frame → (own : List ℕ) × ((r : List ℕ) → text_lines o (frame.1 ++ r) ≡ own ++ text_lines o r)
  frame_first c frame h =
      let t = texted link_body limit c frame h in
      let small : 16 + length t.body < 2 ^ 32 = omega (arith, t.fits, l) in
      (shown_lines o (take (16 + length t.body) (frame_text c t.body)), λ r. ap (λ z. text_lines o (z ++ r)) t.text_is ∙ at_start o c t.body r (accepted link_body limit c frame h).header small)

  joined_texts : (s t : List ℕ) → text_lines o (texts link_body limit s ++ t) ≡ text_lines o (texts link_body limit s) ++ text_lines o t
  joined_texts s t =
      Frames.by_frames link_body limit (λ s. text_lines o (texts link_body limit s ++ t) ≡ text_lines o (texts link_body limit s) ++ text_lines o t)
      (λ s frame h i.
      let more = texts link_body limit (drop (nla_align frame.0) s) in
      let f = frame_first s frame h in
      let e = texts_step link_body limit s frame h in
      ap (λ z. text_lines o (z ++ t)) e ∙ ap (text_lines o) (append_assoc frame.1 more t) ∙ f.1 (more ++ t) ∙ ap (λ z. f.0 ++ z) i
      ∙ sym (append_assoc f.0 (text_lines o more) (text_lines o t)) ∙ sym (ap (λ z. z ++ text_lines o t) (ap (text_lines o) e ∙ f.1 more)))
      (λ s kind h.
      let none = texts_stop link_body limit s kind h in
      ap (λ z. text_lines o (z ++ t)) none ∙ sym (ap (λ z. z ++ text_lines o t) (ap (text_lines o) none ∙ stopped o [] refl)))
      s

pub joined : LinesAreJoined
joined o limit s t l = joined_texts o limit l s t
