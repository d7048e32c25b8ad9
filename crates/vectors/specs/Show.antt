-- The expected result for a capture by its lines.
use Rattle.std.specs.Prelude.{ℕ, List, [], ◌∷◌, ◌++◌, codes, Option, None, Some, Result, Ok, Err}
use Rattle.link_capture_grammar.specs.declared.fault.CaptureFault.{CaptureFault}
use Rattle.link_capture_grammar.specs.Captures.{first_fault}
use Rattle.link_capture_grammar.specs.Faults.{fault_text}
use Rattle.link_lines.specs.MessageLines.{Selection, shown}
use Rattle.link_capture_grammar.specs.Body.{link_body}

-- The last line of a result: `legal`, or the fault.
abbrev pub outcome_line : Result (Unit {0}) CaptureFault → List ℕ
outcome_line (Ok x) = codes "legal" ++ 10 ∷ []
outcome_line (Err fault) = fault_text fault ++ 10 ∷ []

-- The last line for a capture with this first fault.
abbrev pub judged_line : Option CaptureFault → List ℕ
judged_line None = codes "legal" ++ 10 ∷ []
judged_line (Some fault) = fault_text fault ++ 10 ∷ []

-- The result for a capture: the lines that are selected up to the first fault, and the last line.
abbrev pub expected_line : Selection → ℕ → List ℕ → List ℕ
expected_line o limit capture = shown o limit capture ++ judged_line (first_fault link_body limit capture)
