-- one more message, or none
use Rattle.std.proofs.Common.{◌≡◌, ◌+◌, Some, drop, refl, sym, ap, subst, ◌∙◌, rules}
use Rattle.netlink_packet_core.specs.Attributes.{nla_align}
use Rattle.link_capture.specs.Messages.{IsNext}
use Rattle.link_capture.specs.Texts.{IsFirstMessage}
use Rattle.examples.proofs.Learning.{LearnedTo, learned_none, learned_more, learned_all, unchanged}
use Rattle.examples.proofs.interfaces.learn_all.Goals as goal

pub loop-message-init : goal.loop-message-init
loop-message-init c = record {
  limit = c.new-messages.ensures.limit;
  capture = c.new-messages.ensures.capture;
  offset = c.new-messages.ensures.offset;
  learned = learned_none c.args.limit c.args.capture.now c.args.interfaces.now;
}

pub loop-message-preserved : goal.loop-message-preserved
loop-message-preserved c =
    let w = c.loop-message.invariant in
    let limit = c.args.limit in
    let bytes = c.args.capture.now in
    let message = c.in_ok-message.field-0 in
    let step = subst (λ m. IsNext c.loop-message.messages (Some m) c.next.new.self) c.in_ok-message.was c.in-Some.ensures.steps in
    let n = step.1.0 in
    let gives : IsFirstMessage limit (drop c.loop-message.offset bytes) n message = rw (w.limit, w.capture, w.offset) at step.1.1 in
    let after : c.offset-offset.result ≡ c.loop-message.offset + nla_align n = c.offset-offset.ensures.offset ∙ ap (λ t. t.offset) step.1.2 ∙ ap (λ p. p + nla_align n) w.offset in
    record {
      limit = ap (λ t. t.limit) step.1.2 ∙ w.limit;
      capture = ap (λ t. t.capture) step.1.2 ∙ w.capture;
      offset = sym c.offset-offset.ensures.offset;
      learned = subst (λ p. LearnedTo limit bytes p c.args.interfaces.now c.learn_last.new.interfaces) (sym after) (learned_more limit bytes c.loop-message.offset n message c.args.interfaces.now c.loop-message.interfaces c.learn_last.new.interfaces w.learned gives c.in-Ok.ensures.ok);
    }

pub returns-in_err-message-clause-learned : goal.returns-in_err-message-clause-learned
returns-in_err-message-clause-learned c =
    let w = c.loop-message.invariant in
    let r = learned_all c.args.limit c.args.capture.now c.loop-message.offset c.args.interfaces.now c.loop-message.interfaces c.loop-message.interfaces w.learned (λ index. refl) in
    let step = subst (λ m. IsNext c.loop-message.messages (Some m) c.next.new.self) c.in_err-message.was c.in-Some.ensures.steps in
    let there : c.in_err-message.field-0.0.offset ≡ c.loop-message.offset = step.1.offset ∙ w.offset in
    (r.0, c.loop-message.offset, r.1, r.2, search rules)

pub returns-clause-learned : goal.returns-clause-learned
returns-clause-learned c =
    let w = c.loop-message.invariant in
    let r = learned_all c.args.limit c.args.capture.now c.loop-message.offset c.args.interfaces.now c.loop-message.interfaces c.loop-message.interfaces w.learned (λ index. refl) in
    (r.0, c.loop-message.offset, r.1, r.2, rw (w.capture, w.offset) at c.in_default.ensures.steps.0)

pub returns-in_default-learn_last-clause-learned : goal.returns-in_default-learn_last-clause-learned
returns-in_default-learn_last-clause-learned c =
    let w = c.loop-message.invariant in
    let r = learned_all c.args.limit c.args.capture.now c.loop-message.offset c.args.interfaces.now c.loop-message.interfaces c.learn_last.new.interfaces w.learned (unchanged c.loop-message.interfaces c.learn_last.new.interfaces c.in_default-learn_last.ensures.err) in
    (r.0, c.loop-message.offset, r.1, r.2, refl)
