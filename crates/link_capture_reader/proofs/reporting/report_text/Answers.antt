use Rattle.link_capture_reader.proofs.ReportedPrefix.{reported_prefix}
use Rattle.link_capture_reader.proofs.reporting.report_text.Goals as goal

pub returns-in-Err : goal.returns-in-Err
returns-in-Err g c =
    let fault = c.in-Err.ensures.fault in
    reported_prefix _ _ _ _ fault.2.0 c.as_bytes.ensures.value fault.1 fault.2.3
