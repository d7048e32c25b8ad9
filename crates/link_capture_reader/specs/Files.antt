-- Files that are opened by their names.
use Rattle.std.specs.Prelude.{ℕ, List, ◌++◌, Option, option_map, Result}
use Rattle.std.specs.declared.io.ErrorKind.{ErrorKind}
use Rattle.link_capture_reader.specs.States.{SourceState}

-- One call of `open`: the name, and the file that was opened or the reason why it couldn't be.
pub record Opening (File : Type 0) : Type 0 where
  pub name : List ℕ
  pub outcome : Result File ErrorKind

-- An opening by its name and its outcome.
abbrev pub opening : {File : Type 0} → List ℕ → Result File ErrorKind → Opening File
opening name outcome = record { name = name; outcome = outcome }

-- Openings, if they are known, and then these.
abbrev pub then_opened : {File : Type 0} → Option (List (Opening File)) → List (Opening File) →
    Option (List (Opening File))
then_opened known more = option_map (λ all. all ++ more) known

-- A file system before and after a call: the states of its files, the bytes of the file with a name, if they are known,
-- and the openings, if they are known.
pub record Files (File : Type 0) : Type 0 where
  pub state : File → SourceState
  pub contents : List ℕ → Option (List ℕ)
  pub before : Option (List (Opening File))
  pub after : Option (List (Opening File))

-- A file system before and after a call, as its trait describes it.
abbrev pub files_of : {F File : Type 0} → (File → SourceState) → (F → List ℕ → Option (List ℕ)) →
    (F → Option (List (Opening File))) → F → F → Files File
files_of state contents openings before after =
    record { state = state; contents = contents before; before = openings before; after = openings after }
