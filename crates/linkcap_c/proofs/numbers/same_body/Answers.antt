use Rattle.std.proofs.Common.{◌∙◌, inl, inr, arith}
use Rattle.std.specs.Prelude.{bytes_eq}
use Rattle.linkcap_c.proofs.Bodies.{noop, error, done, link, other}
use Rattle.linkcap_c.proofs.numbers.same_body.Goals as goal
use Rattle.linkcap_c.proofs.numbers.same_body.Goals.{in_default-via-then-message_type-lt16, in_default-via-else-message_type-lt16+else-message_type-lt20}

pub returns-in-1 : goal.returns-in-1
returns-in-1 c = noop c.args.message_type c.args.left.now c.args.right.now c.in-1.is

pub returns-in-2 : goal.returns-in-2
returns-in-2 c = c.same_error.ensures ∙ error c.args.message_type c.args.left.now c.args.right.now c.in-2.is

pub returns-in-3 : goal.returns-in-3
returns-in-3 c =
    c.eq.ensures
    ∙ (λ i. bytes_eq (c.with_code.ensures i) (c.with_code-in-3.ensures i))
    ∙ done c.args.message_type c.args.left.now c.args.right.now c.in-3.is

pub returns-in-16-to-19 : goal.returns-in-16-to-19
returns-in-16-to-19 c = c.same.ensures ∙ link c.args.message_type c.args.left.now c.args.right.now (omega arith) (omega arith)

pub returns-in_default : goal.returns-in_default
returns-in_default c =
    elim c.in_default.branch [
      | in_default-via-then-message_type-lt16 w ↦ c.eq-in_default.ensures ∙ other c.args.message_type c.args.left.now c.args.right.now (λ e. omega (arith, e)) (λ e. omega (arith, e)) (λ e. omega (arith, e)) (inl (omega arith))
      | in_default-via-else-message_type-lt16+else-message_type-lt20 w ↦ c.eq-in_default.ensures ∙ other c.args.message_type c.args.left.now c.args.right.now (λ e. omega (arith, e)) (λ e. omega (arith, e)) (λ e. omega (arith, e)) (inr (omega arith))
    ]
