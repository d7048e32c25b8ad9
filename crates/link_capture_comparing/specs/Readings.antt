-- What was read of a source since a state of it.
use Rattle.std.specs.Prelude.{◌≡◌, ℕ, Bool, true, false, List, length, Result, Ok, Err}
use Rattle.std.specs.Io.KnownBytes.{Consumes}
use Rattle.link_capture_grammar.specs.declared.fault.CaptureFault.{CaptureFault}
use Rattle.link_capture_reader.specs.Devices.{ReportsItsEnd, IsPrefix}
use Rattle.link_capture_reader.specs.States.{SourceState}
use Rattle.link_capture_comparing.specs.Comparisons.{IsReadUpTo, IsReadWhole}

-- The source has reported its end since it was in the first of these states, or it hasn't.
abbrev pub EndsAs : Bool → SourceState → SourceState → Type 0
EndsAs false initial now = now.ends_reported ≡ initial.ends_reported
EndsAs true initial now = ReportsItsEnd initial.ends_reported now.ends_reported now.to_come

-- Since a source was in the state `initial`, s was read of it, `read` bytes, and it never failed.
pub record HasRead (initial now : SourceState) (ended : Bool) (read : ℕ) (s : List ℕ) : Type 0 where
  pub bytes : Consumes initial.to_come now.to_come s
  pub failures : now.failures ≡ initial.failures
  pub ends : EndsAs ended initial now
  pub count : read ≡ length s

-- Reading failed with this fault, after s and perhaps more.
abbrev pub ReadFailsAfter : SourceState → SourceState → List ℕ → CaptureFault → Type 0
ReadFailsAfter initial now s fault = (t : List ℕ) × IsPrefix s t × IsReadUpTo initial now t fault

-- After s, the rest was read to the source's end, or reading failed.
abbrev pub EndsOrReadFails : {A : Type 0} → SourceState → SourceState → List ℕ → Result A CaptureFault → Type 0
EndsOrReadFails initial now s (Ok x) = (t : List ℕ) × IsPrefix s t × IsReadWhole initial now t
EndsOrReadFails initial now s (Err fault) = ReadFailsAfter initial now s fault
