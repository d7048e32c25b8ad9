-- What follows other bytes goes on with what is written of these, and the first fault is the whole's.
use Rattle.linkcap_c.specs.Options.{output_form}
use Rattle.linkcap_c.specs.Pieces.{is_last}
use Rattle.linkcap_c.proofs.Forms.{is_form, text_is_form}
use Rattle.linkcap_c.proofs.Walking.{continues, first_of_whole, stops_whole}
use Rattle.linkcap_c.proofs.writing.write_piece.Goals as goal

pub returns-clause-continues : goal.returns-clause-continues
returns-clause-continues c = λ before b.
    let done = c.write_messages in
    let form = is_form c.captures_are_counted.ensures c.captures_unfold_by_frames.ensures c.joined_captures_have_the_faults_of_the_second.ensures c.joined_captures_have_joined_texts.ensures c.messages_unfold.ensures c.pieces_are_joined.ensures c.args.limit (output_form c.args.output.now) in
    continues (output_form c.args.output.now) c.args.limit c.args.piece.now.offset form (is_last c.args.piece.now) c.args.piece.now.bytes.now done.result.used done.result.written done.ensures.used before b

pub returns-clause-first : goal.returns-clause-first
returns-clause-first c = λ before more kind b m bad.
    let done = c.write_messages in
    let texts = text_is_form c.captures_are_counted.ensures c.captures_unfold_by_frames.ensures c.joined_captures_have_the_faults_of_the_second.ensures c.joined_captures_have_joined_texts.ensures c.args.limit in
    first_of_whole c.frames_are_independent.ensures c.args.limit c.args.piece.now.offset texts (is_last c.args.piece.now) c.args.piece.now.bytes.now done.result.at before more kind done.ensures.legal b m bad

pub returns-clause-ends : goal.returns-clause-ends
returns-clause-ends c = λ before more kind b m bad stops.
    let done = c.write_messages in
    let form = is_form c.captures_are_counted.ensures c.captures_unfold_by_frames.ensures c.joined_captures_have_the_faults_of_the_second.ensures c.joined_captures_have_joined_texts.ensures c.messages_unfold.ensures c.pieces_are_joined.ensures c.args.limit (output_form c.args.output.now) in
    stops_whole (output_form c.args.output.now) c.args.limit c.args.piece.now.offset form (is_last c.args.piece.now) c.args.piece.now.bytes.now done.result.used done.result.written done.ensures.used before b c.frames_are_independent.ensures more kind m bad stops
