-- The message is shown, or showing stops there.
use Rattle.std.proofs.Common.{◌++◌, sym, subst, ◌∙◌, ap}
use Rattle.netlink_packet_core_grammar.specs.Frames.{BeginsWithFrame}
use Rattle.link_lines.specs.MessageLines.{message_lines}
use Rattle.link_lines.specs.Messages.{Message.Faulty}
use Rattle.link_lines.specs.Options.{selection_of}
use Rattle.link_lines.specs.declared.messages.Judgement.TheVariants as J
use Rattle.link_lines.proofs.Header.{frame_is_frame}
use Rattle.link_lines.proofs.Stepping.{judged_as}
use Rattle.link_lines.proofs.messages.push_selected_message.Goals as goal

pub push_refused-requires : goal.push_refused-requires
push_refused-requires c =
    let judged = judged_as _ _ _ _ (J.Faulty c.in-Faulty.kind c.in-Faulty.len) c.in-Faulty.is c.in_ok-len.ensures.ok in
    subst BeginsWithFrame (sym c.frame_of.ensures) (frame_is_frame c.args.bytes.now judged.2)

pub returns-in_ok-push_accepted-in-Accepted-clause-ok : goal.returns-in_ok-push_accepted-in-Accepted-clause-ok
returns-in_ok-push_accepted-in-Accepted-clause-ok c =
    let judged = judged_as _ _ _ _ (J.Accepted c.in-Accepted.len) c.in-Accepted.is c.in_ok-len.ensures.ok in
    (c.judge.new.text.items, judged, c.in_ok-push_accepted-in-Accepted.ensures.ok)

pub returns-in_ok-push_refused-in-Faulty-clause-ok : goal.returns-in_ok-push_refused-in-Faulty-clause-ok
returns-in_ok-push_refused-in-Faulty-clause-ok c =
    let judged = judged_as _ _ _ _ (J.Faulty c.in-Faulty.kind c.in-Faulty.len) c.in-Faulty.is c.in_ok-len.ensures.ok in (
      c.if-options.true,
      judged.0,
      judged.1,
      judged.2,
      judged.3,
      c.in_ok-push_refused-in-Faulty.ensures.ok ∙ ap (λ f. c.args.out.now.items ++ message_lines (selection_of c.args.options.now) (Faulty c.args.offset c.in-Faulty.kind f)) c.frame_of.ensures,
    )
