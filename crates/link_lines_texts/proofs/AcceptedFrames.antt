-- The text of an accepted frame is shown as a frame whose body is canonical.
use Rattle.std.proofs.Common.{◌≡◌, ℕ, ◌+◌, ◌^◌, ◌<◌, ◌≤◌, List, [], ◌++◌, length, take, Ok, sym, ap, subst, ◌∙◌, append-nil, arith}
use Rattle.netlink_packet_core_grammar.specs.Bytes.{AreBytes}
use Rattle.netlink_packet_core_grammar.specs.Frames.{frame_length, frame_text}
use Rattle.link_message_grammar.specs.Body.{link_body}
use Rattle.link_capture_grammar.specs.Captures.{first_frame}
use Rattle.link_capture_grammar.proofs.Frames.{accepted}
use Rattle.link_capture_grammar.proofs.Normal.{text_length, texted}
use Rattle.link_lines_texts.specs.Captures.{Choice, shown_lines, text_lines}
use Rattle.link_lines_texts.specs.Determination.{AcceptedFramesAreCanonical, IsCanonicalFrame, unpadded}
use Rattle.link_lines_texts.proofs.CapturesDetermined.{in_text, no_text_lines, unpadded_frame, unpadded_is_canonical}
use Rattle.link_lines_texts.proofs.FrameUnfolding.{at_start}

-- The frame at the start of a text.
start_of_text : (c body text : List ℕ) → 16 ≤ length c → 16 + length body < 2 ^ 32 → text ≡ frame_text c body → unpadded text ≡ unpadded_frame c body
start_of_text c body text header small is =
    let size : frame_length text ≡ 16 + length body = ap (λ t. frame_length t) (is ∙ sym (append-nil (frame_text c body))) ∙ text_length c body [] small in
    ap (λ n. take n text) size ∙ ap (take (16 + length body)) is ∙ in_text c body header

canonical : (limit : ℕ) (c : List ℕ) (frame : ℕ × List ℕ) → limit < 2 ^ 32 → AreBytes c → first_frame link_body limit c ≡ Ok frame → IsCanonicalFrame (unpadded frame.1)
canonical limit c frame l p e =
    let i = texted link_body limit c frame e in
    let header = (accepted link_body limit c frame e).header in
    let small : 16 + length i.body < 2 ^ 32 = omega (arith, i.fits, l) in
    subst IsCanonicalFrame (sym (start_of_text c i.body frame.1 header small i.text_is)) (unpadded_is_canonical c i.body header small p i.body_is)

lines : (o : Choice) (limit : ℕ) (c : List ℕ) (frame : ℕ × List ℕ) → limit < 2 ^ 32 → first_frame link_body limit c ≡ Ok frame → text_lines o frame.1 ≡ shown_lines o (unpadded frame.1)
lines o limit c frame l e =
    let i = texted link_body limit c frame e in
    let header = (accepted link_body limit c frame e).header in
    let small : 16 + length i.body < 2 ^ 32 = omega (arith, i.fits, l) in
    let text = frame_text c i.body in
    let own = take (16 + length i.body) text in
    ap (text_lines o) (i.text_is ∙ sym (append-nil text)) ∙ at_start o c i.body [] header small
    ∙ ap (λ z. shown_lines o own ++ z) (no_text_lines o) ∙ append-nil (shown_lines o own)
    ∙ ap (shown_lines o) (in_text c i.body header ∙ sym (start_of_text c i.body frame.1 header small i.text_is))

pub accepted_canonical : AcceptedFramesAreCanonical
accepted_canonical = record { canonical = canonical; lines = lines }
