-- The text of an accepted frame, followed by others.
use Rattle.std.proofs.Common.{◌≡◌, ℕ, ◌+◌, ◌^◌, ◌<◌, ◌≤◌, true, List, [], ◌++◌, length, take, drop, Ok, sym, ap, ◌∙◌, append-nil, arith}
use Rattle.std.proofs.lemmas.Bool.{and_from, le-leb}
use Rattle.std.proofs.lemmas.List.{length-append, take_at, drop_at}
use Rattle.netlink_packet_core_grammar.specs.Attributes.{nla_align}
use Rattle.netlink_packet_core_grammar.specs.Frames.{frame_length, frame_type, frame_body, frame_text, begins_with_frame}
use Rattle.link_message_grammar.specs.Body.{link_body}
use Rattle.link_capture_grammar.specs.Bodies.{body_text}
use Rattle.link_capture_grammar.specs.Captures.{IsFrameOfLength, first_frame}
use Rattle.link_capture_numbers.specs.Cleared.{repeats_request, first_frame_cleared, numbers_cleared}
use Rattle.link_capture_numbers.proofs.Steps.{first_frame_joined, whole}
use Rattle.link_capture_numbers.proofs.Zeros.{repeated, cleared_first}
use Rattle.link_capture_numbers.proofs.Texts.{text_repeats}
use Rattle.link_capture_numbers.proofs.Judged.{error_is, body_size}
use Rattle.link_capture_grammar.proofs.Frames.{accepted}
use Rattle.link_capture_grammar.proofs.Normal.{Texted, texted, frame_text_size, text_length}

-- ---- the text followed by other bytes

-- the text of an accepted frame
module _ (limit : ℕ) (small : limit < 2 ^ 32) (c : List ℕ) (frame : ℕ × List ℕ) (h : first_frame link_body limit c ≡ Ok frame) where
  a : IsFrameOfLength limit c frame.0
  a = accepted link_body limit c frame h

  i : Texted link_body limit c frame
  i = texted link_body limit c frame h

  abbrev t : List ℕ
  t = frame_text c i.body

  short : 16 + length i.body < 2 ^ 32
  short = omega (arith, i.fits, small)

  error : frame_type c ≡ 2 → 16 + length i.body ≡ frame_length c
  error two =
      let same : frame_body c ≡ i.body = error_is (frame_body c) i.body (sym (ap (λ t. body_text link_body t (frame_body c)) two) ∙ i.body_is) in
      omega (arith, ap length same, body_size c (omega (arith, a.low, a.is)) (omega (arith, a.whole, a.is)), a.low, a.is)

  size : length t ≡ nla_align (16 + length i.body)
  size = frame_text_size c i.body a.header

  repeats : (more : List ℕ) → repeats_request (t ++ more) ≡ repeats_request c
  repeats more = text_repeats c i.body more a.header short error

  bare : t ++ [] ≡ t
  bare = append-nil t

  determined : frame_length t ≡ 16 + length i.body
  determined = ap frame_length (sym bare) ∙ text_length c i.body [] short

  same_repeats : repeats_request t ≡ repeats_request c
  same_repeats = ap repeats_request (sym bare) ∙ repeats []

  long : repeats_request t ≡ true → 36 ≤ length t
  long r = omega (arith, repeated t r, size, determined)

  is_whole : (more : List ℕ) → begins_with_frame (t ++ more) ≡ true
  is_whole more =
      let all = length-append t more in
      let l = text_length c i.body more short in
      and_from _ _ (le-leb 16 (length (t ++ more)) (omega (arith, all, size)))
      (and_from _ _ (le-leb 16 (frame_length (t ++ more)) (omega (arith, l))) (le-leb (frame_length (t ++ more)) (length (t ++ more)) (omega (arith, l, all, size))))

  at_payload_start : (more : List ℕ) → numbers_cleared (t ++ more) ≡ first_frame_cleared t ++ numbers_cleared more
  at_payload_start more =
      let joined : first_frame_cleared (t ++ more) ≡ first_frame_cleared t ++ more = first_frame_joined t more (omega (arith, size)) long (repeats more ∙ sym same_repeats) in
      let kept = (cleared_first t (omega (arith, determined)) (omega (arith, determined, size))).size in
      whole (t ++ more) (is_whole more)
      ∙ ap (λ k. take (nla_align k) (first_frame_cleared (t ++ more)) ++ numbers_cleared (drop (nla_align k) (t ++ more))) (text_length c i.body more short)
      ∙ ap (λ z. take (nla_align (16 + length i.body)) z ++ numbers_cleared (drop (nla_align (16 + length i.body)) (t ++ more))) joined
      ∙ ap (λ z. z ++ numbers_cleared (drop (nla_align (16 + length i.body)) (t ++ more))) (take_at (first_frame_cleared t) more (nla_align (16 + length i.body)) (kept ∙ size))
      ∙ ap (λ z. first_frame_cleared t ++ numbers_cleared z) (drop_at t more (nla_align (16 + length i.body)) size)

  pub first_frame_of_text : (more : List ℕ) → numbers_cleared (frame.1 ++ more) ≡ first_frame_cleared frame.1 ++ numbers_cleared more
  first_frame_of_text more = ap (λ z. numbers_cleared (z ++ more)) i.text_is ∙ at_payload_start more ∙ ap (λ z. first_frame_cleared z ++ numbers_cleared more) (sym i.text_is)
