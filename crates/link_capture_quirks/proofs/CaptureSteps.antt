-- The quirks of a capture, frame by frame.
use Rattle.std.proofs.Common.{◌≡◌, ℕ, ◌+◌, List, [], ◌++◌, cond, length, take, drop, Ok, Err, ap, ◌∙◌, arith}
use Rattle.std.proofs.lemmas.List.{length-take}
use Rattle.netlink_packet_core_grammar.specs.Attributes.{nla_align}
use Rattle.netlink_packet_core_grammar.specs.Frames.{frame_type, frame_body}
use Rattle.link_message_grammar.specs.Body.{link_body}
use Rattle.link_capture_grammar.specs.declared.fault.FaultKind.{FaultKind}
use Rattle.link_capture_grammar.specs.Bodies.{is_link_type}
use Rattle.link_capture_grammar.specs.Captures.{first_frame, split}
use Rattle.link_capture_grammar.proofs.Frames.{accepted, no_frames, own_bytes, split_nil, split_step}
use Rattle.link_capture_quirks.specs.CaptureQuirks.{frame_quirks, frames_quirks, link_quirks, quirks_from}
use Rattle.link_capture_quirks.specs.QuirkLaws.{QuirksUnfoldByFrames}

stop : (limit offset : ℕ) (c : List ℕ) (kind : FaultKind) → first_frame link_body limit c ≡ Err kind → quirks_from limit offset c ≡ []
unfolding quirks_from
stop limit offset c kind h = ap (frames_quirks offset) (no_frames link_body limit c kind h)

nothing : (limit offset : ℕ) → quirks_from limit offset [] ≡ []
unfolding quirks_from
nothing limit offset = ap (λ s. frames_quirks offset s.frames) (split_nil link_body limit)

-- the quirks of the first frame are those of its bytes
own_quirks : (limit offset : ℕ) (c : List ℕ) (frame : ℕ × List ℕ) → first_frame link_body limit c ≡ Ok frame → frame_quirks offset (take frame.0 c) ≡ frame_quirks offset c
unfolding frame_quirks
own_quirks limit offset c frame h =
    let own = own_bytes link_body limit c frame h in
    ap (λ t. cond (is_link_type t) (link_quirks (offset + 16) t (frame_body (take frame.0 c))) []) own.type
    ∙ ap (λ b. cond (is_link_type (frame_type c)) (link_quirks (offset + 16) (frame_type c) b) []) own.body

next : (limit offset : ℕ) (c : List ℕ) (frame : ℕ × List ℕ) → first_frame link_body limit c ≡ Ok frame → quirks_from limit offset c ≡ frame_quirks offset c ++ quirks_from limit (offset + nla_align frame.0) (drop (nla_align frame.0) c)
unfolding quirks_from
next limit offset c frame h =
    let a = accepted link_body limit c frame h in
    let rest = (split link_body limit (drop (nla_align frame.0) c)).frames in
    let size : length (take frame.0 c) ≡ frame.0 = omega (arith, length-take frame.0 c, a.whole) in
    ap (λ s. frames_quirks offset s.frames) (split_step link_body limit c frame h)
    ∙ ap (λ q. q ++ frames_quirks (offset + nla_align (length (take frame.0 c))) rest) (own_quirks limit offset c frame h)
    ∙ ap (λ n. frame_quirks offset c ++ frames_quirks (offset + nla_align n) rest) size

pub steps : QuirksUnfoldByFrames
steps = record { next = next; fault = stop; none = nothing }
