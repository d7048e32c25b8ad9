use Rattle.std.proofs.Common.{◌++◌, map, false, refl, sym, ap, subst, ◌∙◌}
use Rattle.std.specs.Prelude.{codes}
use Rattle.link_capture_reader.specs.States.{IsReported, sink_state}
use Rattle.link_capture_refusals.specs.ReasonTexts.{words}
use Rattle.link_capture_refusals.specs.RefusalViews.{found}
use Rattle.link_capture_refusals.specs.RefusalTexts.{path_text, offset_text, refusal_text}
use Rattle.link_lines.specs.Refused.{refusal_message}
use Rattle.linkshow_program.proofs.Reporting.{retold, then_reported, no_more_reported}
use Rattle.linkshow_program.proofs.refusals.report_refusal.Goals as goal

pub returns-then-not-report_text : goal.returns-then-not-report_text
returns-then-not-report_text g c =
    subst (λ o. IsReported (sink_state g.E.Sink.holds g.E.Sink.failures c.args.errors.now) (sink_state g.E.Sink.holds g.E.Sink.failures c.report_text.new.sink) (refusal_message o) false) (sym c.in-Some.is)
    (no_more_reported _ _ _ (codes ": ") (refusal_text (found c.in-Some.refusal)) _ c.if-not-report_text.true refl c.report_text.ensures)

pub returns-then-not-report_path : goal.returns-then-not-report_path
returns-then-not-report_path g c =
    let names = path_text (found c.in-Some.refusal).path in
    let rest = words c.in-Some.refusal.reason ++ offset_text c.in-Some.refusal.offset in
    let path = ap (λ p. path_text (map (λ n. n.now) p)) c.as_slice.ensures.value in
    subst (λ o. IsReported (sink_state g.E.Sink.holds g.E.Sink.failures c.args.errors.now) (sink_state g.E.Sink.holds g.E.Sink.failures c.report_path.new.errors) (refusal_message o) false) (sym c.in-Some.is)
    (then_reported _ (sink_state g.E.Sink.holds g.E.Sink.failures c.report_text.new.sink) _ _ (codes ": ") (names ++ rest) _ false c.if-not-report_text.false refl c.report_text.ensures
    (no_more_reported _ _ _ names rest _ c.if-not-report_path.true path c.report_path.ensures))

pub returns : goal.returns
returns g c =
    let names = path_text (found c.in-Some.refusal).path in
    let rest = words c.in-Some.refusal.reason ++ offset_text c.in-Some.refusal.offset in
    let path = ap (λ p. path_text (map (λ n. n.now) p)) c.as_slice.ensures.value in
    subst (λ o. IsReported (sink_state g.E.Sink.holds g.E.Sink.failures c.args.errors.now) (sink_state g.E.Sink.holds g.E.Sink.failures c.report_text-2.new.sink) (refusal_message o) c.report_text-2.result) (sym c.in-Some.is)
    (then_reported _ (sink_state g.E.Sink.holds g.E.Sink.failures c.report_text.new.sink) _ _ (codes ": ") (names ++ rest) _ c.report_text-2.result c.if-not-report_text.false refl c.report_text.ensures
    (then_reported _ (sink_state g.E.Sink.holds g.E.Sink.failures c.report_path.new.errors) _ _ names rest _ c.report_text-2.result c.if-not-report_path.false path c.report_path.ensures
    (retold _ _ _ _ _ (c.as_str.ensures.value ∙ c.reason_text.ensures) c.report_text-2.ensures)))
