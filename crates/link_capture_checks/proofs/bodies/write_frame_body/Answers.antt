use Rattle.std.proofs.Common.{◌++◌, length, is_ok, sym, ap, ◌∙◌, inl, inr, arith}
use Rattle.std.proofs.lemmas.List.{append-nil}
use Rattle.link_message_grammar.specs.Body.{link_body}
use Rattle.link_capture_checks.specs.Measures.{text_or_empty}
use Rattle.link_capture_checks.proofs.Types.{noop, error, done, link, other}
use Rattle.link_capture_checks.proofs.Written.{error_is, done_is, ruled_is}
use Rattle.link_capture_checks.proofs.bodies.write_frame_body.Goals as goal
use Rattle.link_capture_checks.proofs.bodies.write_frame_body.Goals.{in_default-via-then-message_type-lt16, in_default-via-else-message_type-lt16+else-message_type-lt20}

pub append-requires : goal.append-requires
append-requires c =
    let b = c.args.body.now in
    let j = (error c.args.message_type b c.in-2.is).text in
    let size = ap length (ap text_or_empty j ∙ error_is b (sym (ap is_ok j) ∙ c.requires.text)) in
    omega (arith, size, c.requires.capacity)

pub append-requires-in-3 : goal.append-requires-in-3
append-requires-in-3 c =
    let b = c.args.body.now in
    let j = (done c.args.message_type b c.in-3.is).text in
    let size = ap length (ap text_or_empty j ∙ done_is b (sym (ap is_ok j) ∙ c.requires.text) ∙ sym c.with_code.ensures) in
    omega (arith, size, c.requires.capacity)

pub write_body-requires-clause-accepted : goal.write_body-requires-clause-accepted
write_body-requires-clause-accepted c =
    let b = c.args.body.now in
    let j = (link c.args.message_type b (omega arith) (omega arith)).text in
    (ruled_is link_body b (sym (ap is_ok j) ∙ c.requires.text)).accepted

pub write_body-requires-clause-fits : goal.write_body-requires-clause-fits
write_body-requires-clause-fits c =
    let b = c.args.body.now in
    let j = (link c.args.message_type b (omega arith) (omega arith)).text in
    (ruled_is link_body b (sym (ap is_ok j) ∙ c.requires.text)).fits

pub write_body-requires-clause-capacity : goal.write_body-requires-clause-capacity
write_body-requires-clause-capacity c =
    let b = c.args.body.now in
    let j = (link c.args.message_type b (omega arith) (omega arith)).text in
    let size = ap length (ap text_or_empty j ∙ (ruled_is link_body b (sym (ap is_ok j) ∙ c.requires.text)).text) in
    omega (arith, size, c.requires.capacity)

pub append-requires-in_default : goal.append-requires-in_default
append-requires-in_default c =
    let t = c.args.message_type in
    let b = c.args.body.now in
    elim c.in_default.branch [
      | in_default-via-then-message_type-lt16 w ↦ (let size = ap (λ x. length (text_or_empty x)) (other t b (λ e. omega (arith, e)) (λ e. omega (arith, e)) (λ e. omega (arith, e)) (inl (omega arith))).text in omega (arith, size, c.requires.capacity))
      | in_default-via-else-message_type-lt16+else-message_type-lt20 w ↦ (let size = ap (λ x. length (text_or_empty x)) (other t b (λ e. omega (arith, e)) (λ e. omega (arith, e)) (λ e. omega (arith, e)) (inr (omega arith))).text in omega (arith, size, c.requires.capacity))
    ]

pub returns-in-1-clause-text : goal.returns-in-1-clause-text
returns-in-1-clause-text c = sym (append-nil c.args.out.now.items) ∙ ap (λ x. c.args.out.now.items ++ text_or_empty x) (sym (noop c.args.message_type c.args.body.now c.in-1.is).text)

pub returns-in-2-clause-text : goal.returns-in-2-clause-text
returns-in-2-clause-text c =
    let b = c.args.body.now in
    let j = (error c.args.message_type b c.in-2.is).text in
    c.append.ensures.text ∙ ap (λ x. c.args.out.now.items ++ x) (sym (ap text_or_empty j ∙ error_is b (sym (ap is_ok j) ∙ c.requires.text)))

pub returns-in-3-clause-text : goal.returns-in-3-clause-text
returns-in-3-clause-text c =
    let b = c.args.body.now in
    let j = (done c.args.message_type b c.in-3.is).text in
    c.append-in-3.ensures.text ∙ ap (λ x. c.args.out.now.items ++ x) (c.with_code.ensures ∙ sym (ap text_or_empty j ∙ done_is b (sym (ap is_ok j) ∙ c.requires.text)))

pub returns-in-16-to-19-clause-text : goal.returns-in-16-to-19-clause-text
returns-in-16-to-19-clause-text c =
    let b = c.args.body.now in
    let j = (link c.args.message_type b (omega arith) (omega arith)).text in
    c.write_body.ensures.text ∙ ap (λ x. c.args.out.now.items ++ x) (sym (ap text_or_empty j ∙ (ruled_is link_body b (sym (ap is_ok j) ∙ c.requires.text)).text))

pub returns-in_default-clause-text : goal.returns-in_default-clause-text
returns-in_default-clause-text c =
    let t = c.args.message_type in
    let b = c.args.body.now in
    elim c.in_default.branch [
      | in_default-via-then-message_type-lt16 w ↦ c.append-in_default.ensures.text ∙ ap (λ x. c.args.out.now.items ++ text_or_empty x) (sym (other t b (λ e. omega (arith, e)) (λ e. omega (arith, e)) (λ e. omega (arith, e)) (inl (omega arith))).text)
      | in_default-via-else-message_type-lt16+else-message_type-lt20 w ↦ c.append-in_default.ensures.text ∙ ap (λ x. c.args.out.now.items ++ text_or_empty x) (sym (other t b (λ e. omega (arith, e)) (λ e. omega (arith, e)) (λ e. omega (arith, e)) (inr (omega arith))).text)
    ]
