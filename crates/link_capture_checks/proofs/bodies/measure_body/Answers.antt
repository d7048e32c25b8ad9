use Rattle.std.proofs.Common.{[], Ok, inl, inr, arith, refl}
use Rattle.link_capture_checks.proofs.Types.{noop, error, done, link, other, measured, refused}
use Rattle.link_capture_checks.proofs.bodies.measure_body.Goals as goal
use Rattle.link_capture_checks.proofs.bodies.measure_body.Goals.{in_default-via-then-message_type-lt16, in_default-via-else-message_type-lt16+else-message_type-lt20}

pub returns-in-1-clause-ok : goal.returns-in-1-clause-ok
returns-in-1-clause-ok c = measured _ _ _ _ (noop c.args.message_type c.args.body.now c.in-1.is) (Ok _) (record { text = []; is = refl; len = refl; attributes = refl; canonical = λ h. absurd cc })

pub returns-in-2-clause-ok : goal.returns-in-2-clause-ok
returns-in-2-clause-ok c = measured _ _ _ _ (error c.args.message_type c.args.body.now c.in-2.is) c.measure_error.result c.measure_error.ensures.ok

pub returns-in-2-clause-err : goal.returns-in-2-clause-err
returns-in-2-clause-err c = refused _ _ _ _ (error c.args.message_type c.args.body.now c.in-2.is) c.measure_error.result c.measure_error.ensures.err

pub returns-in-3-clause-ok : goal.returns-in-3-clause-ok
returns-in-3-clause-ok c = measured _ _ _ _ (done c.args.message_type c.args.body.now c.in-3.is) c.measure_done.result c.measure_done.ensures.ok

pub returns-in-3-clause-err : goal.returns-in-3-clause-err
returns-in-3-clause-err c = refused _ _ _ _ (done c.args.message_type c.args.body.now c.in-3.is) c.measure_done.result c.measure_done.ensures.err

pub returns-in-16-to-19-clause-ok : goal.returns-in-16-to-19-clause-ok
returns-in-16-to-19-clause-ok c = measured _ _ _ _ (link c.args.message_type c.args.body.now (omega arith) (omega arith)) c.measure_link.result c.measure_link.ensures.ok

pub returns-in-16-to-19-clause-err : goal.returns-in-16-to-19-clause-err
returns-in-16-to-19-clause-err c = refused _ _ _ _ (link c.args.message_type c.args.body.now (omega arith) (omega arith)) c.measure_link.result c.measure_link.ensures.err

pub returns-in_default-clause-ok : goal.returns-in_default-clause-ok
returns-in_default-clause-ok c =
    elim c.in_default.branch [
      | in_default-via-then-message_type-lt16 w ↦ measured _ _ _ _ (other c.args.message_type c.args.body.now (λ e. omega (arith, e)) (λ e. omega (arith, e)) (λ e. omega (arith, e)) (inl (omega arith))) (Ok c.kept.result) c.kept.ensures.text
      | in_default-via-else-message_type-lt16+else-message_type-lt20 w ↦ measured _ _ _ _ (other c.args.message_type c.args.body.now (λ e. omega (arith, e)) (λ e. omega (arith, e)) (λ e. omega (arith, e)) (inr (omega arith))) (Ok c.kept.result) c.kept.ensures.text
    ]
