-- The message is written, or lacks padding or space.
use Rattle.std.proofs.Common.{None, Some, subst}
use Rattle.linkcap_c.specs.Options.{output_form}
use Rattle.linkcap_c.specs.Pieces.{IsPushed}
use Rattle.linkcap_c.proofs.Walking.{IsFirst, accepted_first, faulty_first, stops_first, writes_first}
use Rattle.linkcap_c.proofs.pieces.write_message.Goals as goal
use Rattle.linkcap_c.proofs.pieces.write_message.Goals.{After-put_message, After-put_message-in-Faulty}

accepted : (c : After-put_message) → IsFirst (output_form c.args.output.now) c.args.limit c.args.offset c.args.bytes.now c.as_slice.result.now c.in-Accepted.len None
accepted c =
    accepted_first c.captures_unfold_by_frames.ensures c.frames_are_independent.ensures c.pieces_are_joined.ensures c.args.limit c.args.offset c.args.bytes.now c.as_slice.result.now c.push_message.new.out.items c.clear.new.self.items c.as_slice.ensures.value c.clear.ensures.items (output_form c.args.output.now) c.in-Accepted.len
    (subst (IsPushed (output_form c.args.output.now) c.args.limit c.args.offset c.args.bytes.now c.clear.new.self.items c.push_message.new.out.items) c.in-Accepted.is c.in-Ok.ensures.ok)

faulty : (c : After-put_message-in-Faulty) → IsFirst (output_form c.args.output.now) c.args.limit c.args.offset c.args.bytes.now c.as_slice-in-Faulty.result.now c.in-Faulty.len (Some c.in-Faulty.kind)
faulty c =
    faulty_first c.captures_unfold_by_frames.ensures c.frames_are_independent.ensures c.pieces_are_joined.ensures c.args.limit c.args.offset c.args.bytes.now c.as_slice-in-Faulty.result.now c.push_message.new.out.items c.clear.new.self.items c.as_slice-in-Faulty.ensures.value c.clear.ensures.items (output_form c.args.output.now) c.in-Faulty.kind c.in-Faulty.len
    (subst (IsPushed (output_form c.args.output.now) c.args.limit c.args.offset c.args.bytes.now c.clear.new.self.items c.push_message.new.out.items) c.in-Faulty.is c.in-Ok.ensures.ok)

pub returns-in-Accepted-clause-ok : goal.returns-in-Accepted-clause-ok
returns-in-Accepted-clause-ok c =
    writes_first (output_form c.args.output.now) c.args.limit c.args.offset c.args.last c.args.bytes.now c.as_slice.result.now c.args.out.now c.put_message.new.out c.in-Accepted.len None (accepted (goal.at.returns-in-Accepted-clause-ok c).After-put_message) c.put_message.result c.put_message.ensures.ok c.put_message.ensures.padded

pub returns-in-Accepted-clause-stops : goal.returns-in-Accepted-clause-stops
returns-in-Accepted-clause-stops c =
    stops_first (output_form c.args.output.now) c.args.limit c.args.offset c.args.last c.args.bytes.now c.as_slice.result.now c.args.out.now c.put_message.new.out c.in-Accepted.len None (accepted (goal.at.returns-in-Accepted-clause-stops c).After-put_message) c.put_message.result c.put_message.ensures.stops

pub returns-in-Faulty-clause-ok : goal.returns-in-Faulty-clause-ok
returns-in-Faulty-clause-ok c =
    writes_first (output_form c.args.output.now) c.args.limit c.args.offset c.args.last c.args.bytes.now c.as_slice-in-Faulty.result.now c.args.out.now c.put_message-in-Faulty.new.out c.in-Faulty.len (Some c.in-Faulty.kind) (faulty (goal.at.returns-in-Faulty-clause-ok c).After-put_message-in-Faulty) c.put_message-in-Faulty.result c.put_message-in-Faulty.ensures.ok c.put_message-in-Faulty.ensures.padded

pub returns-in-Faulty-clause-stops : goal.returns-in-Faulty-clause-stops
returns-in-Faulty-clause-stops c =
    stops_first (output_form c.args.output.now) c.args.limit c.args.offset c.args.last c.args.bytes.now c.as_slice-in-Faulty.result.now c.args.out.now c.put_message-in-Faulty.new.out c.in-Faulty.len (Some c.in-Faulty.kind) (faulty (goal.at.returns-in-Faulty-clause-stops c).After-put_message-in-Faulty) c.put_message-in-Faulty.result c.put_message-in-Faulty.ensures.stops
