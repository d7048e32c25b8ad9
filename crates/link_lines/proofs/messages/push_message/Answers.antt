-- The message is shown, or showing stops there.
use Rattle.link_lines.specs.Options.{selection_of}
use Rattle.link_lines.specs.declared.messages.ShownMessage.TheVariants as Outcome
use Rattle.link_lines.proofs.Stepping.{accepted_step, faulty_step, shown_as}
use Rattle.link_lines.proofs.messages.push_message.Goals as goal

pub returns-in-Accepted-clause-ok : goal.returns-in-Accepted-clause-ok
returns-in-Accepted-clause-ok c =
    let shown = shown_as (selection_of c.args.options.now) c.args.limit c.args.offset c.args.bytes.now c.args.out.now.items c.push_selected_message.new.out.items _ (Outcome.Accepted c.in-Accepted.len) c.in-Accepted.is c.in_ok-len.ensures.ok in
    accepted_step c.frames_are_independent.ensures c.messages_unfold.ensures (selection_of c.args.options.now) c.args.limit c.args.offset c.args.bytes.now c.args.out.now.items c.push_selected_message.new.out.items _ c.in-Accepted.len shown

pub returns-in-Faulty-clause-ok : goal.returns-in-Faulty-clause-ok
returns-in-Faulty-clause-ok c =
    let shown = shown_as (selection_of c.args.options.now) c.args.limit c.args.offset c.args.bytes.now c.args.out.now.items c.push_selected_message.new.out.items _ (Outcome.Faulty c.in-Faulty.kind c.in-Faulty.len) c.in-Faulty.is c.in_ok-len.ensures.ok in
    faulty_step c.frames_are_independent.ensures c.messages_unfold.ensures (selection_of c.args.options.now) c.args.limit c.args.offset c.args.bytes.now c.args.out.now.items c.push_selected_message.new.out.items _ _ c.in-Faulty.kind c.in-Faulty.len shown c.keep_fault.ensures
