-- When a capture has lines.
use Rattle.std.proofs.Common.{◌≡◌, true, ℕ, ◌+◌, ◌^◌, ◌<◌, List, [], ◌∷◌, ◌++◌, length, take, drop, Ok, Err, refl, sym, ap, ◌∙◌, arith}
use Rattle.netlink_packet_core_grammar.specs.Attributes.{nla_align}
use Rattle.netlink_packet_core_grammar.specs.Frames.{frame_text}
use Rattle.link_message_grammar.specs.Body.{link_body}
use Rattle.link_capture_grammar.specs.Captures.{Judged, first_frame, texts}
use Rattle.link_capture_grammar.proofs.EveryRule.{in_force}
use Rattle.link_capture_grammar.proofs.Frames.{accepted}
use Rattle.link_capture_grammar.proofs.Normal.{texted}
use Rattle.link_lines_texts.specs.Captures.{everything, lines, text_lines}
use Rattle.link_lines_texts.specs.Frames.{frame_lines}
use Rattle.link_lines_texts.specs.Laws.{AcceptedFramesHaveLines}
use Rattle.link_lines_texts.proofs.CapturesDetermined.{frame_has_lines, no_text_lines, stopped_texts}
use Rattle.link_lines_texts.proofs.FrameUnfolding.{at_start}

some_since : (s : List ℕ) → (s ≡ [] → ⊥) → 0 < length s
some_since [] h = absurd (h refl)
some_since (x ∷ s) h = omega arith

-- A frame that is accepted has some.
accepted_lines : (limit : ℕ) (c : List ℕ) (frame : ℕ × List ℕ) → limit < 2 ^ 32 → first_frame link_body limit c ≡ Ok frame → 0 < length (lines everything limit c)
accepted_lines limit c frame l e =
    let i = texted link_body limit c frame e in
    let small : 16 + length i.body < 2 ^ 32 = omega (arith, i.fits, l) in
    let more = texts link_body limit (drop (nla_align frame.0) c) in
    let text : texts link_body limit c ≡ frame_text c i.body ++ more = in_force.captures_are_counted.next_text limit c frame e ∙ ap (λ z. z ++ more) i.text_is in
    let own = take (16 + length i.body) (frame_text c i.body) in
    let all : lines everything limit c ≡ frame_lines true own ++ text_lines everything more =
    ap (λ z. text_lines everything z) text ∙ at_start everything c i.body more (accepted link_body limit c frame e).header small in
    some_since (lines everything limit c) (λ none. frame_has_lines true own (text_lines everything more) (sym all ∙ none))

-- A frame that isn't accepted has none.
judged_lines : (limit : ℕ) (c : List ℕ) (j : Judged) → first_frame link_body limit c ≡ j → 0 < length (lines everything limit c) → (frame : ℕ × List ℕ) × (first_frame link_body limit c ≡ Ok frame)
judged_lines limit c (Ok frame) e h = (frame, e)
judged_lines limit c (Err kind) e h =
    let none : lines everything limit c ≡ [] = ap (λ z. text_lines everything z) (stopped_texts limit c kind e) ∙ no_text_lines everything in
    absurd (omega (arith, ap length none, h))

pub have_lines : AcceptedFramesHaveLines
have_lines limit c l = (judged_lines limit c (first_frame link_body limit c) refl, λ a. accepted_lines limit c a.0 l a.1)
