-- The devices of a run, before and after it.
use Rattle.link_capture_reader.specs.States.{SinkState, SourceState}

-- The devices of a run that shows one capture, before and after it: the source, the sink of its lines, and that of
-- reports.
pub record Run : Type 0 where
  pub source_before : SourceState
  pub source_after : SourceState
  pub output_before : SinkState
  pub output_after : SinkState
  pub reported : SinkState
  pub reported_after : SinkState

-- The states of the devices before and after a run, as their traits describe them.
abbrev pub run_of : {S K E : Type 0} → (S → SourceState) → (K → SinkState) → (E → SinkState) → S → S → K → K → E → E →
    Run
run_of source sink errors source_before source_after output_before output_after reported reported_after = record {
  source_before = source source_before;
  source_after = source source_after;
  output_before = sink output_before;
  output_after = sink output_after;
  reported = errors reported;
  reported_after = errors reported_after;
}
