-- The refusal of a frame depends only on the frame's bytes.
use Rattle.std.proofs.Common.{◌+◌, true, cond, ◌++◌, Some, ap, ◌∙◌}
use Rattle.netlink_packet_core_grammar.specs.Frames.{frame_body, frame_type}
use Rattle.link_capture_grammar.specs.Bodies.{is_link_type}
use Rattle.link_capture_grammar.proofs.Frames.{frame_body-more, frame_type-more}
use Rattle.link_capture_refusals.specs.RefusalLaws.{RefusalsAreIndependent}
use Rattle.link_capture_refusals.specs.Refusals.{code_refusal, frame_refusal, link_refusal, list_refusal}

pub independent : RefusalsAreIndependent
unfolding frame_refusal
independent offset c d f =
    ap (λ t. cond (is_link_type t) (link_refusal list_refusal true (offset + 16) (offset + 16) (frame_body (c ++ d))) (Some (code_refusal (frame_body (c ++ d)))))
    (frame_type-more c d f.has_header)
    ∙ ap (λ b. cond (is_link_type (frame_type c)) (link_refusal list_refusal true (offset + 16) (offset + 16) b) (Some (code_refusal b)))
    (frame_body-more c d f.has_header f.within)
