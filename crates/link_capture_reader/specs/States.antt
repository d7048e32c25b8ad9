-- The states of sources and sinks, and what was written to a sink between two states.
use Rattle.std.specs.Prelude.{◌≡◌, ℕ, Bool, true, false, List, Option}
use Rattle.std.specs.Io.KnownBytes.{Appends}
use Rattle.link_capture_reader.specs.Devices.{Rises, IsPrefix}

-- The state of a source: the bytes to come, if they are known; how often it failed; and how often it reported its end.
pub record SourceState : Type 0 where
  pub to_come : Option (List ℕ)
  pub failures : ℕ
  pub ends_reported : ℕ

-- The state of a sink: the bytes that it holds, if they are known; and how often it failed.
pub record SinkState : Type 0 where
  pub holds : Option (List ℕ)
  pub failures : ℕ

-- The state of a source, by the ghost functions of its trait.
abbrev pub source_state : {S : Type 0} → (S → Option (List ℕ)) → (S → ℕ) → (S → ℕ) → S → SourceState
source_state to_come failures ends_reported s =
    record { to_come = to_come s; failures = failures s; ends_reported = ends_reported s }

-- The state of a sink, by the ghost functions of its trait.
abbrev pub sink_state : {K : Type 0} → (K → Option (List ℕ)) → (K → ℕ) → K → SinkState
sink_state holds failures k = record { holds = holds k; failures = failures k }

-- All of a text was written to a sink, or a prefix of it, after which the sink failed.
abbrev pub IsReported : SinkState → SinkState → List ℕ → Bool → Type 0
IsReported before after text true = Appends before.holds after.holds text × (after.failures ≡ before.failures)
IsReported before after text false = Rises before.failures after.failures ×
    ((prefix : List ℕ) × IsPrefix prefix text × Appends before.holds after.holds prefix)

-- A text was written to a sink, all of it or a prefix.
abbrev pub IsReportedUnlessSinkFails : SinkState → SinkState → List ℕ → Type 0
IsReportedUnlessSinkFails before after text = (complete : Bool) × IsReported before after text complete
