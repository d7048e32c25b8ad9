-- The program's commands, what it prints and reports, and its exit status.
use Rattle.std.specs.Prelude.{◌≡◌, ℕ, Bool, true, false, List, [], ◌∷◌, ◌++◌, codes, cond, Option, None, Some, Result}
use Rattle.std.specs.Prelude.{Ok, Err, ⊤}
use Rattle.link_capture_grammar.specs.declared.fault.CaptureFault.{CaptureFault}
use Rattle.link_capture_grammar.specs.declared.fault.FaultKind.TheVariants.{Write}
use Rattle.link_capture_grammar.specs.Faults.{fault_text}
use Rattle.link_capture_checks.specs.declared.sameness.SideFault.{SideFault}
use Rattle.link_capture_checks.specs.Sides.{side_text}
use Rattle.link_capture_commands.specs.Commands.{AsksForCommand, status_of_norm, status_of_same}
use Rattle.link_capture_reader.specs.Outcomes.{Normalizes}
use Rattle.link_capture_reader.specs.States.{IsReported, SinkState, SourceState, IsReportedUnlessSinkFails}
use Rattle.link_capture_commands.specs.declared.command.Command.{Command}
use Rattle.link_capture_commands.specs.declared.command.Command.TheVariants.{Norm, Same}

-- One run: the states of the source, of the sink for output, and of the sink for error messages, before and after it.
pub record Run : Type 0 where
  pub source_before : SourceState
  pub source_after : SourceState
  pub output_before : SinkState
  pub output_after : SinkState
  pub errors_before : SinkState
  pub errors_after : SinkState

-- The states of a run, by the devices before and after it.
abbrev pub run_of : {S K E : Type 0} → (S → SourceState) → (K → SinkState) → (E → SinkState) → S → S → K → K → E → E →
    Run
run_of source sink errors source_before source_after output_before output_after errors_before errors_after = record {
  source_before = source source_before;
  source_after = source source_after;
  output_before = sink output_before;
  output_after = sink output_after;
  errors_before = errors errors_before;
  errors_after = errors errors_after;
}

-- A run with a usage error: the usage line is reported, with status 3.
abbrev pub UsageRun : SinkState → SinkState → ℕ → Type 0
UsageRun errors_before errors_after status =
    IsReportedUnlessSinkFails errors_before errors_after (codes "usage: linkcap norm [LIMIT] or linkcap same FILE FILE [LIMIT]" ++
    10 ∷ []) × (status ≡ 3)

-- The error message for a normalised capture: a line with the fault, or nothing.
abbrev pub norm_error : Result ⊤ CaptureFault → List ℕ
norm_error (Ok x) = []
norm_error (Err fault) = fault_text fault ++ 10 ∷ []

-- A run of `norm`: the source's capture was normalised to the sink, and the fault is reported, with this status.
abbrev pub NormRun : Run → ℕ → ℕ → Type 0
NormRun r limit status =
    (outcome : Result ⊤ CaptureFault)
    × Normalizes r.source_before r.source_after r.output_before r.output_after limit outcome
    × IsReportedUnlessSinkFails r.errors_before r.errors_after (norm_error outcome) × (status ≡ status_of_norm outcome)

-- The output for two captures: a line that says whether they mean the same, or nothing after a fault.
abbrev pub same_line : Result Bool SideFault → List ℕ
same_line (Ok true) = codes "same" ++ 10 ∷ []
same_line (Ok false) = codes "different" ++ 10 ∷ []
same_line (Err e) = []

-- The error message for two captures: a line with the fault, or one that says that the output couldn't be printed, or
-- nothing.
abbrev pub same_error : Bool → Result Bool SideFault → List ℕ
same_error printed (Err e) = side_text e ++ 10 ∷ []
same_error true (Ok is_same) = []
same_error false (Ok is_same) = fault_text (record { kind = Write; offset = 0 }) ++ 10 ∷ []

-- The result of a comparison is printed as its line, if that is possible; a fault, or that printing failed, is
-- reported, with this status.
abbrev pub SameReported : SinkState → SinkState → SinkState → SinkState → Result Bool SideFault → ℕ → Type 0
SameReported held holds errors_before errors_after outcome status =
    (printed : Bool) × IsReported held holds (same_line outcome) printed ×
    IsReportedUnlessSinkFails errors_before errors_after (same_error printed outcome) ×
    (status ≡ cond printed (status_of_same outcome) 2)

-- A run of `same`: two captures were compared, and the result is printed or reported, with this status.
abbrev pub SameRun : (Result Bool SideFault → Type 0) → SinkState → SinkState → SinkState → SinkState → ℕ → Type 0
SameRun Compared held holds errors_before errors_after status = (outcome : Result Bool SideFault) × Compared outcome ×
    SameReported held holds errors_before errors_after outcome status

-- The arguments ask for this command, or for none.
abbrev pub AsksFor : List (List ℕ) → Option Command → Type 0
AsksFor arguments None = (command : Command) → AsksForCommand arguments command → ⊥
AsksFor arguments (Some command) = AsksForCommand arguments command

-- What holds after a run of this command. Without a command nothing is opened, read or printed; for a normal text no
-- file is opened; and when two files are compared, the source isn't read.
abbrev pub RunsCommand : Type 0 → Type 0 → Type 0 → Run → (List ℕ → List ℕ → ℕ → Result Bool SideFault → Type 0) → ℕ →
    Option Command → Type 0
RunsCommand unopened unread unwritten r Compared status None = unopened × unread × unwritten ×
    UsageRun r.errors_before r.errors_after status
RunsCommand unopened unread unwritten r Compared status (Some (Norm limit)) = unopened × NormRun r limit status
RunsCommand unopened unread unwritten r Compared status (Some (Same first second limit)) =
    unread × SameRun (Compared first.now second.now limit) r.output_before r.output_after r.errors_before r.errors_after status

-- The arguments ask for `asked`, a command or none, and `RunsCommand` holds of it.
abbrev pub RunsAsAsked : List (List ℕ) → Type 0 → Type 0 → Type 0 → Run →
    (List ℕ → List ℕ → ℕ → Result Bool SideFault → Type 0) → ℕ → Type 0
RunsAsAsked arguments unopened unread unwritten r Compared status =
    (asked : Option Command) × AsksFor arguments asked × RunsCommand unopened unread unwritten r Compared status asked
