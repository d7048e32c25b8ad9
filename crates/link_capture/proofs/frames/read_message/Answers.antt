use Rattle.std.proofs.Common.{Ok, inl, inr, sym, ap, ◌∙◌}
use Rattle.std.proofs.lemmas.Bool.{cases_Bool}
use Rattle.netlink_packet_core.specs.Frames.{frame_type, frame_body}
use Rattle.netlink_packet_core.specs.Messages.{unpadded_text}
use Rattle.netlink_packet_core.specs.Refusals.{is_out_of_memory}
use Rattle.link_capture.specs.Routes.{route_entry, route_ran_out_of_memory, typed_text}
use Rattle.link_capture.proofs.WrittenBodies.{one_body, body_written, frame_read}
use Rattle.link_capture.proofs.frames.read_message.Goals as goal

pub returns-in-Ok-clause-message : goal.returns-in-Ok-clause-message
returns-in-Ok-clause-message c =
    let bytes = c.args.bytes.now in
    let t = c.in_ok-frame.ensures.ok in
    let law = c.read_frames_keep_their_header.ensures t.body (λ x h. one_body (frame_type bytes, t.body) (route_entry x) (sym (ap (typed_text (frame_type bytes)) t.judged) ∙ h)) in
    record {
      body = t.body;
      judged = t.judged;
      is = t.is ∙ ap (λ text. Ok (c.in_ok-frame.frame.len, text)) t.written;
      read = c.in-Ok.ensures.ok;
      text = law ∙ ap (unpadded_text bytes) (body_written (frame_type bytes) (frame_body bytes) t.body t.judged);
    }

-- a body that has a text is read, so an error means that an allocation failed
pub returns-in-Err-clause-kept : goal.returns-in-Err-clause-kept
returns-in-Err-clause-kept c =
    let t = c.in_ok-frame.ensures.ok in
    λ _. elim (cases_Bool (is_out_of_memory route_ran_out_of_memory c.in-Err.field-0)) [
      | inl k ↦ (c.in-Err.ensures.memory k).1
      | inr k ↦ absurd (frame_read c.args.bytes.now t.body t.whole t.judged (c.in-Err.ensures.err k))
    ]
