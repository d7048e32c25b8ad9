use Rattle.std.proofs.Common.{◌++◌, ◌∷◌, false, append-nil, refl, ap, ◌∙◌}
use Rattle.std.specs.Prelude.{option_map}
use Rattle.link_capture_reader.specs.States.{sink_state}
use Rattle.link_lines.specs.Refused.{fault_message}
use Rattle.linkshow_program.specs.Texts.{advice}
use Rattle.linkshow_program.specs.Runs.{is_unread, name_report}
use Rattle.linkshow_program.proofs.Reporting.{retold, then_reported, no_more_reported}
use Rattle.linkshow_program.proofs.showing.report_fault.Goals as goal

pub returns-then-not-report_name : goal.returns-then-not-report_name
returns-then-not-report_name g c =
    let file = option_map (λ name. name.now) c.args.file in
    no_more_reported _ _ _ (name_report file (is_unread c.args.found.now.fault.kind)) _ _ c.if-not-report_name.true (ap (name_report file) c.is_unread.ensures) c.report_name.ensures

pub returns-then-not-report_fault_message : goal.returns-then-not-report_fault_message
returns-then-not-report_fault_message g c =
    let file = option_map (λ name. name.now) c.args.file in
    let rest = 10 ∷ advice c.args.first.now in
    then_reported _ (sink_state g.E.Sink.holds g.E.Sink.failures c.report_name.new.errors) _ _ (name_report file (is_unread c.args.found.now.fault.kind)) (fault_message c.args.found.now ++ rest) _ false c.if-not-report_name.false
    (ap (name_report file) c.is_unread.ensures) c.report_name.ensures (no_more_reported _ _ _ (fault_message c.args.found.now) rest _ c.if-not-report_fault_message.true refl c.report_fault_message.ensures)

pub returns : goal.returns
returns g c =
    let file = option_map (λ name. name.now) c.args.file in
    then_reported _ _ _ _ (name_report file (is_unread c.args.found.now.fault.kind)) _ _ _ c.if-not-report_name.false (ap (name_report file) c.is_unread.ensures) c.report_name.ensures
    (then_reported _ _ _ _ (fault_message c.args.found.now) _ _ _ c.if-not-report_fault_message.false refl c.report_fault_message.ensures
    (retold _ _ _ _ _ (ap (λ z. 10 ∷ z) (append-nil c.advice.result.now ∙ c.advice.ensures)) c.report_texts.ensures))
