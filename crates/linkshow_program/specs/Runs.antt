-- The reports on a capture, and the program's status.
use Rattle.std.specs.Prelude.{◌≡◌, ℕ, Bool, true, false, List, [], ◌∷◌, ◌++◌, ◌⊎◌, length, take, codes, cond, Option}
use Rattle.std.specs.Prelude.{None, Some, Result, Ok, Err, option_map}
use Rattle.std.specs.Io.KnownBytes.{Consumes}
use Rattle.std.specs.declared.io.ErrorKind.{ErrorKind}
use Rattle.link_capture_grammar.specs.declared.fault.CaptureFault.{CaptureFault}
use Rattle.link_capture_grammar.specs.declared.fault.FaultKind.{FaultKind}
use Rattle.link_capture_grammar.specs.declared.fault.FaultKind.TheVariants.{Read, Write}
use Rattle.link_capture_grammar.specs.Faults.{fault_text}
use Rattle.link_capture_reader.specs.Devices.{ReportsItsEnd}
use Rattle.link_capture_reader.specs.Files.{Files, opening, then_opened}
use Rattle.link_capture_reader.specs.Outcomes.{ReadFault}
use Rattle.link_capture_quirks.specs.declared.quirk_at.QuirkAt.{QuirkAt}
use Rattle.link_capture_quirks.specs.QuirkTexts.{quirk_text}
use Rattle.link_capture_quirks.specs.CaptureQuirks.{capture_quirks}
use Rattle.link_lines.specs.MessageLines.{Selection}
use Rattle.link_lines.specs.Options.{selection_of}
use Rattle.link_lines.specs.Outcomes.{Shows, ShowsKeeping}
use Rattle.link_lines.specs.Refused.{fault_message}
use Rattle.link_lines.specs.declared.refused.ShowFault.{ShowFault}
use Rattle.linkshow_program.specs.declared.arguments.Options.{Options}
use Rattle.linkshow_program.specs.declared.arguments.Asked.{Asked}
use Rattle.linkshow_program.specs.declared.arguments.Asked.TheVariants.{Help, Version, Show}
use Rattle.linkshow_program.specs.declared.arguments.UsageError.{UsageError}
use Rattle.linkshow_program.specs.Arguments.{Asks, UsageFault, usage_fault}
use Rattle.linkshow_program.specs.Texts.{cause, advice, help_text, usage_text, version_text}
use Rattle.link_capture_reader.specs.States.{IsReported, SinkState, SourceState, IsReportedUnlessSinkFails}
use Rattle.linkshow_program.specs.Devices.{Run}
use Rattle.linkshow_program.specs.Reporting.{ReportsBoth}

-- ---- reports

-- Whether a fault is a failure of the source.
abbrev pub is_unread : FaultKind → Bool
is_unread Read = true
is_unread kind = false

-- The name of a file that couldn't be opened or read, before the reason.
abbrev pub name_report : Option (List ℕ) → Bool → List ℕ
name_report (Some name) true = codes "linkshow: " ++ (name ++ codes ": ")
name_report file unread = []

-- The report of a fault: its text with its offset, the reason of a refused body, and the advice for a capture that
-- begins with these bytes.
abbrev pub fault_report : Option (List ℕ) → List ℕ → ShowFault → List ℕ
fault_report file first e = name_report file (is_unread e.fault.kind) ++ (fault_message e ++ (10 ∷ advice first))

-- The report on a legal capture: that there are no messages, if no line was written.
abbrev pub nothing_shown : Bool → List ℕ
nothing_shown true = []
nothing_shown false = codes "no messages" ++ 10 ∷ []

-- The report on a capture that was shown, which begins with these bytes.
abbrev pub report_of : Option (List ℕ) → List ℕ → Result Bool ShowFault → List ℕ
report_of file first (Ok has_lines) = nothing_shown has_lines
report_of file first (Err e) = fault_report file first e

-- The status after a capture was shown, or not.
abbrev pub status_of : Result Bool ShowFault → ℕ
status_of (Ok has_lines) = 0
status_of (Err e) = 2

-- The report of a file that couldn't be opened.
abbrev pub unopened : List ℕ → ErrorKind → List ℕ
unopened name kind = name_report (Some name) true ++ (cause kind ++ 10 ∷ [])

-- ---- lines

-- What is shown of a capture, as options say.
abbrev pub chosen : Options → Selection
chosen o = selection_of o.show

-- A capture was shown, this was reported of it and of the first bytes that were read, and this is the status.
abbrev pub ShowRun : Selection → Run → Option (List ℕ) → ℕ → ℕ → Type 0
ShowRun ch r file limit status =
    (outcome : Result Bool ShowFault) × (first : List ℕ)
    × ShowsKeeping first ch r.source_before r.source_after r.output_before r.output_after limit outcome
    × IsReportedUnlessSinkFails r.reported r.reported_after (report_of file first outcome) × (status ≡ status_of outcome)

-- ---- with notes

-- The line of one note.
abbrev pub note_text : QuirkAt → List ℕ
note_text x = codes "note: " ++ (quirk_text x ++ 10 ∷ [])

-- The lines of all notes, one for each encoding quirk.
abbrev pub notes_text : List QuirkAt → List ℕ
notes_text [] = []
notes_text (x ∷ xs) = note_text x ++ notes_text xs

-- The bytes that were read are shown as from a source that never fails.
abbrev pub ShowsWhole : Selection → List ℕ → SinkState → SinkState → ℕ → Result Bool ShowFault → Type 0
ShowsWhole ch s held holds limit outcome =
    (left : Option (List ℕ)) × (old new : ℕ) ×
    Shows ch (record { to_come = Some s; failures = 0; ends_reported = old })
    (record { to_come = left; failures = 0; ends_reported = new }) held holds limit outcome

-- All was read, noted and then shown; or reading failed, only this was reported, and nothing was written to the sink of
-- the lines.
abbrev pub NotesRun : Selection → Run → Type 0 → Option (List ℕ) → ℕ → ℕ → Type 0
NotesRun ch r unwritten file limit status =
    (s : List ℕ) × Consumes r.source_before.to_come r.source_after.to_come s × (
    (ReportsItsEnd r.source_before.ends_reported r.source_after.ends_reported r.source_after.to_come ×
    ((outcome : Result Bool ShowFault) × ShowsWhole ch s r.output_before r.output_after limit outcome
    × ReportsBoth r.reported r.reported_after (notes_text (capture_quirks limit s)) (report_of file (take 4 s) outcome)
    × (status ≡ status_of outcome)))
    ⊎ ((fault : CaptureFault) × ReadFault r.source_before.failures r.source_after.failures s fault.kind × (fault.offset ≡ length s) ×
    unwritten
    × IsReportedUnlessSinkFails r.reported r.reported_after (report_of file (take 4 s) (Err (record {
      fault = fault;
      refusal =
          None;
    }))) × (status ≡ 2))
    )

-- ---- the arguments

-- A capture was shown, with notes or without.
abbrev pub CaptureRun : Bool → Selection → Run → Type 0 → Option (List ℕ) → ℕ → ℕ → Type 0
CaptureRun true ch r unwritten file limit status = NotesRun ch r unwritten file limit status
CaptureRun false ch r unwritten file limit status = ShowRun ch r file limit status

-- A file of this name couldn't be opened, and only this was reported; or it was, and its capture is shown: its bytes
-- are those known of it.
abbrev pub FileRun : {File : Type 0} → (File → SourceState) → Option (List ℕ) → Result File ErrorKind → List ℕ →
    SinkState → SinkState → SinkState → SinkState → Type 0 → Bool → Selection → ℕ → ℕ → Type 0
FileRun state known (Err kind) name held holds reported reported_after unwritten kernels ch limit status =
    unwritten × IsReportedUnlessSinkFails reported reported_after (unopened name kind) × (status ≡ 2)
FileRun {File} state known (Ok file) name held holds reported reported_after unwritten kernels ch limit status =
    ((state file).to_come ≡ known) × ((closed : File) × CaptureRun kernels ch (record {
      source_before = state file;
      source_after = state closed;
      output_before = held;
      output_after = holds;
      reported = reported;
      reported_after = reported_after;
    }) unwritten (Some name) limit status)

-- One file was opened, of this name, and shown.
abbrev pub OpensOne : {File : Type 0} → Files File → List ℕ → (Result File ErrorKind → Type 0) → Type 0
OpensOne {File} files name Then = (outcome : Result File ErrorKind) ×
    (files.after ≡ then_opened files.before (opening name outcome ∷ [])) × Then outcome

-- A text was printed, or it was reported that it couldn't be, and this is the status.
abbrev pub PrintRun : SinkState → SinkState → SinkState → SinkState → List ℕ → ℕ → Type 0
PrintRun held holds reported reported_after text status =
    (printed : Bool) × IsReported held holds text printed
    × IsReportedUnlessSinkFails reported reported_after (cond printed [] (fault_text (record { kind = Write; offset = 0 }) ++
    10 ∷ [])) × (status ≡ cond printed 0 2)

-- A usage error was reported, and this is the status.
abbrev pub UsageRun : SinkState → SinkState → UsageFault → ℕ → Type 0
UsageRun reported reported_after fault status = IsReportedUnlessSinkFails reported reported_after (usage_text fault) ×
    (status ≡ 3)

-- A capture is shown from standard input, or from a file.
abbrev pub ShowsFrom : Type 0 → (List ℕ → Type 0) → Option (List ℕ) → Type 0
ShowsFrom FromInput FromFile None = FromInput
ShowsFrom FromInput FromFile (Some name) = FromFile name

-- What the program does when the arguments ask for this, or have this fault. If they ask for help or the version, or
-- are invalid, no file is opened and nothing is read; if they name a file, the source isn't read.
abbrev pub Does : {File : Type 0} → Type 0 → Type 0 → Type 0 → Run → Files File → ℕ → Result Asked UsageError → Type 0
Does unopened unread unwritten r files status (Err e) = unopened × unread × unwritten ×
    UsageRun r.reported r.reported_after (usage_fault e) status
Does unopened unread unwritten r files status (Ok Help) = unopened × unread ×
    PrintRun r.output_before r.output_after r.reported r.reported_after help_text status
Does unopened unread unwritten r files status (Ok Version) = unopened × unread ×
    PrintRun r.output_before r.output_after r.reported r.reported_after version_text status
Does unopened unread unwritten r files status (Ok (Show options)) =
    ShowsFrom (unopened × CaptureRun options.kernels (chosen options) r unwritten None options.limit status)
    (λ name. unread × OpensOne files name
    (λ outcome. FileRun files.state (files.contents name) outcome name r.output_before r.output_after r.reported r.reported_after
    unwritten options.kernels (chosen options) options.limit status))
    (option_map (λ name. name.now) options.file)

-- The program did what the arguments ask for.
abbrev pub RunsAsAsked : {File : Type 0} → List (List ℕ) → Type 0 → Type 0 → Type 0 → Run → Files File → ℕ → Type 0
RunsAsAsked arguments unopened unread unwritten r files status = (given : Result Asked UsageError) ×
    Asks arguments given × Does unopened unread unwritten r files status given
