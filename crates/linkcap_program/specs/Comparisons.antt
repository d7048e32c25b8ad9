-- What was opened and read to compare two files, and the result.
use Rattle.std.specs.Prelude.{◌≡◌, ℕ, Bool, true, false, List, [], ◌∷◌, Option, Result, Ok, Err, ◌⊎◌}
use Rattle.std.specs.declared.io.ErrorKind.{ErrorKind}
use Rattle.link_capture_checks.specs.declared.sameness.SideFault.{SideFault}
use Rattle.link_capture_comparing.specs.Comparisons.{ComparesSources, IsReadWhole, IsReadUpTo}
use Rattle.link_capture_grammar.specs.declared.fault.CaptureFault.{CaptureFault}
use Rattle.link_capture_grammar.specs.declared.fault.FaultKind.TheVariants.{Read}
use Rattle.link_capture_reader.specs.Files.{Files, opening, then_opened}
use Rattle.link_capture_reader.specs.States.{SourceState}

-- The result is a fault of the first or the second file, for which this holds.
abbrev pub FailsAt : Bool → (CaptureFault → Type 0) → Result Bool SideFault → Type 0
FailsAt second IsFault (Ok is_same) = ⊥
FailsAt second IsFault (Err e) = (e.second ≡ second) × IsFault e.fault

-- The fault of a file that can't be opened.
abbrev pub IsOpenFault : CaptureFault → Type 0
IsOpenFault fault = fault ≡ record { kind = Read; offset = 0 }

-- A file was opened: its bytes are those known of it.
abbrev pub HasContents : {File : Type 0} → (File → SourceState) → Option (List ℕ) → File → Type 0
HasContents state known file = (state file).to_come ≡ known

-- The first file was opened and the second couldn't be. The first was read to its end, which gave it this state, and the
-- result says that the second couldn't be opened; or reading the first failed, and the result is why.
abbrev pub ReadsFirst : {File : Type 0} → (File → SourceState) → File → Result Bool SideFault → Type 0
ReadsFirst {File} state one result = (closed : File) × (read : List ℕ) ×
    ((IsReadWhole (state one) (state closed) read × FailsAt true IsOpenFault result)
    ⊎ FailsAt false (IsReadUpTo (state one) (state closed) read) result)

-- Both files were opened; comparing them, from these states to some later ones, gave this result.
abbrev pub ReadsBoth : {File : Type 0} → (File → SourceState) → File → File → ℕ → Result Bool SideFault → Type 0
ReadsBoth {File} state one two limit result = (one_closed two_closed : File) ×
    ComparesSources (record {
      left_before = state one;
      left_after = state one_closed;
      right_before = state two;
      right_after = state two_closed;
    }) limit result

-- What holds after the second file was opened, or couldn't be.
abbrev pub ReadsAfter : {File : Type 0} → Files File → File → List ℕ → ℕ → Result Bool SideFault → Result File ErrorKind →
    Type 0
ReadsAfter files one second limit result (Err kind) = ReadsFirst files.state one result
ReadsAfter files one second limit result (Ok two) =
    HasContents files.state (files.contents second) two × ReadsBoth files.state one two limit result

-- What holds after the first file was opened, or couldn't be: then nothing else was opened. If it was, the second was
-- opened after it.
abbrev pub OpensInTurn : {File : Type 0} → Files File → List ℕ → List ℕ → ℕ → Result Bool SideFault →
    Result File ErrorKind → Type 0
OpensInTurn files first second limit result (Err kind) =
    (files.after ≡ then_opened files.before (opening first (Err kind) ∷ [])) × FailsAt false IsOpenFault result
OpensInTurn {File} files first second limit result (Ok one) =
    HasContents files.state (files.contents first) one × ((two : Result File ErrorKind) ×
    (files.after ≡ then_opened files.before (opening first (Ok one) ∷ opening second two ∷ [])) ×
    ReadsAfter files one second limit result two)

-- Two files are compared: the first is opened once, and only if that succeeds, the second. `OpensInTurn` says what is read
-- and returned.
abbrev pub Compares : {File : Type 0} → Files File → List ℕ → List ℕ → ℕ → Result Bool SideFault → Type 0
Compares {File} files first second limit result =
    (one : Result File ErrorKind) × OpensInTurn files first second limit result one
