-- One message further, or why the writing stops.
use Rattle.std.proofs.Common.{◌+◌, ◌-◌, ◌∙◌, ap, sym, subst, refl, length, take, arith}
use borrow.Rule.Slice.PartMut.{put_mid}
use Rattle.std.proofs.lemmas.List.{take_rest, length-drop}
use Rattle.linkcap_c.specs.Buffers.{Holds}
use Rattle.linkcap_c.specs.Forms.{keeps_going, written_at}
use Rattle.linkcap_c.specs.Options.{output_form}
use Rattle.linkcap_c.specs.Pieces.{IsWrittenTo, StopsAfter}
use Rattle.linkcap_c.specs.declared.pieces.Progress.{Progress}
use Rattle.linkcap_c.proofs.Forms.{is_form, text_is_form}
use Rattle.linkcap_c.proofs.Walking.{Walked, accepted_without, ended, legal_none, legal_one, stops_before, stops_behind, walked_none, walked_one}
use Rattle.linkcap_c.proofs.pieces.write_messages.Goals as goal
use Rattle.linkcap_c.proofs.pieces.write_messages.Goals.{In-Ok}

pub messages-init : goal.messages-init
messages-init c =
    let texts = text_is_form c.captures_are_counted.ensures c.captures_unfold_by_frames.ensures c.joined_captures_have_the_faults_of_the_second.ensures c.joined_captures_have_joined_texts.ensures c.args.limit in
    let form = is_form c.captures_are_counted.ensures c.captures_unfold_by_frames.ensures c.joined_captures_have_the_faults_of_the_second.ensures c.joined_captures_have_joined_texts.ensures c.messages_unfold.ensures c.pieces_are_joined.ensures c.args.limit (output_form c.args.output.now) in
    record {
      legal = legal_none c.args.limit c.args.last c.args.bytes.now texts;
      walked = walked_none (output_form c.args.output.now) c.args.limit c.args.offset c.args.last c.args.bytes.now c.args.out.now form;
    }

-- one message more is written
walked : (c : In-Ok) → Walked (output_form c.args.output.now) c.args.limit c.args.offset c.args.last c.args.bytes.now c.args.out.now (put_mid c.messages.written (length c.messages.out - c.messages.written) c.messages.out c.write_message.new.out)
    (c.messages.used + c.in-Ok.message.read) (c.messages.written + c.in-Ok.message.wrote)
walked c =
    let form = is_form c.captures_are_counted.ensures c.captures_unfold_by_frames.ensures c.joined_captures_have_the_faults_of_the_second.ensures c.joined_captures_have_joined_texts.ensures c.messages_unfold.ensures c.pieces_are_joined.ensures c.args.limit (output_form c.args.output.now) in
    walked_one (output_form c.args.output.now) c.args.limit c.args.offset form c.args.last c.args.bytes.now c.args.out.now c.messages.out c.messages.used c.messages.written c.messages.invariant.walked
    _ _ _ c.write_message.new.out c.in-Ok.message c.messages-test.true refl (take_rest c.args.bytes.now c.messages.used) (take_rest c.messages.out c.messages.written) c.in-Ok.ensures.ok c.in-Ok.ensures.inside.2

pub messages-preserved : goal.messages-preserved
messages-preserved c =
    let at = (goal.at.messages-preserved c).In-Ok in
    let w = c.in-Ok.ensures.ok in
    let texts = text_is_form c.captures_are_counted.ensures c.captures_unfold_by_frames.ensures c.joined_captures_have_the_faults_of_the_second.ensures c.joined_captures_have_joined_texts.ensures c.args.limit in
    record {
      legal = legal_one c.captures_unfold_by_frames.ensures c.frames_are_independent.ensures c.args.limit texts c.args.last c.args.bytes.now _ c.messages.used c.in-Ok.message.read c.messages.invariant.legal c.messages-test.true (take_rest c.args.bytes.now c.messages.used)
          (accepted_without (keeps_going (output_form c.args.output.now)) c.args.limit _ c.in-Ok.message.fault c.in_default.not-Some w.fault) w.read w.padded;
      walked = walked at;
    }

pub returns-in-Some-clause-used : goal.returns-in-Some-clause-used
returns-in-Some-clause-used c =
    let at = (goal.at.returns-in-Some-clause-used c).In-Ok in
    subst (λ (r : Progress). IsWrittenTo (output_form c.args.output.now) c.args.limit c.args.offset c.args.last c.args.bytes.now r.used r.written) (sym c.new.ensures) (walked at).done

pub returns-in-Some-clause-written : goal.returns-in-Some-clause-written
returns-in-Some-clause-written c =
    let at = (goal.at.returns-in-Some-clause-written c).In-Ok in
    subst (λ (r : Progress). Holds (written_at (output_form c.args.output.now) c.args.limit c.args.offset (take r.used c.args.bytes.now)) r.written c.args.out.now (put_mid c.messages.written (length c.messages.out - c.messages.written) c.messages.out c.write_message.new.out))
    (sym c.new.ensures) ((walked at).done.written, (walked at).held)

pub returns-in-Some-clause-stops : goal.returns-in-Some-clause-stops
returns-in-Some-clause-stops c =
    let w = c.in-Ok.ensures.ok in
    let rest = take_rest c.args.bytes.now c.messages.used in
    subst (λ (r : Progress). StopsAfter (output_form c.args.output.now) c.args.limit c.args.offset c.args.last c.args.bytes.now r.used r.at (length c.args.out.now - r.written) r.stop) (sym c.new.ensures)
    (stops_behind (output_form c.args.output.now) c.args.limit c.args.offset c.args.last c.args.bytes.now _ c.messages.used c.in-Ok.message.read (length c.args.out.now - (c.messages.written + c.in-Ok.message.wrote)) c.in-Ok.message.fault c.in-Some.kind c.in-Some.is c.messages-test.true rest w.fault w.read)

pub returns-in-Err-clause-stops : goal.returns-in-Err-clause-stops
returns-in-Err-clause-stops c =
    let space = take_rest c.messages.out c.messages.written in
    let room = ap length space ∙ length-drop c.messages.written c.messages.out ∙ ap (λ n. n - c.messages.written) c.messages.invariant.walked.length in
    subst (λ (r : Progress). StopsAfter (output_form c.args.output.now) c.args.limit c.args.offset c.args.last c.args.bytes.now r.used r.at (length c.args.out.now - r.written) r.stop) (sym c.new-in-Err.ensures)
    (stops_before (output_form c.args.output.now) c.args.limit c.args.offset c.args.last c.args.bytes.now _ c.messages.used _ _ _ c.in-Err.stop refl (take_rest c.args.bytes.now c.messages.used) room c.in-Err.ensures.stops)

pub returns-clause-stops : goal.returns-clause-stops
returns-clause-stops c =
    subst (λ (r : Progress). StopsAfter (output_form c.args.output.now) c.args.limit c.args.offset c.args.last c.args.bytes.now r.used r.at (length c.args.out.now - r.written) r.stop) (sym c.new-2.ensures)
    (refl, ended (keeps_going (output_form c.args.output.now)) c.args.limit c.args.last c.args.bytes.now c.messages.used (omega (arith, c.messages-test.false)))
