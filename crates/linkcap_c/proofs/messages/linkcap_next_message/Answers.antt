-- the messages from the next offset on
use Rattle.std.proofs.Common.{◌≡◌, ap, sym, ◌∙◌, subst, Ok, drop, min, length, ◌+◌, arith}
use Rattle.std.proofs.lemmas.List.{take_rest}
use Rattle.link_capture_grammar.specs.Captures.{first_frame}
use Rattle.linkcap_c.specs.Messages.{IsFollowed}
use Rattle.link_capture_grammar.specs.Body.{link_body}
use Rattle.linkcap_c.proofs.Following.{messages_continue}
use Rattle.linkcap_c.proofs.messages.linkcap_next_message.Goals as goal

pub returns-in-Ok-clause-continues : goal.returns-in-Ok-clause-continues
returns-in-Ok-clause-continues c = λ _.
    let m = c.in-Ok.ensures.ok in
    let limit = c.in-Some.limit in
    let h : first_frame link_body limit (drop c.args.offset c.args.capture.now) ≡ Ok (c.in-Ok.found.len, m.text) = ap (first_frame link_body limit) (sym (take_rest c.args.capture.now c.args.offset)) ∙ m.is in
    let next = messages_continue c.captures_are_counted.ensures limit c.args.offset c.in-Ok.found.len c.args.capture.now m.text (omega arith) (c.in-Ok.ensures.bounds).0 h in
    subst (λ k. IsFollowed k c.args.capture.now c.args.offset c.min.result) c.in-Some.ensures.limit.0
    (subst (λ n. IsFollowed limit c.args.capture.now c.args.offset n) (sym (c.min.ensures ∙ ap (λ k. min (c.args.offset + k) (length c.args.capture.now)) c.nla_align.ensures)) next)
