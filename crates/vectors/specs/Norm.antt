-- The expected result for a capture by its texts.
use Rattle.std.specs.Prelude.{ℕ, List, ◌++◌, codes, length, Option, None, Some}
use Rattle.std.specs.Fmt.{decimal}
use Rattle.hex.specs.Hex.{encode_lower}
use Rattle.link_capture_grammar.specs.declared.fault.CaptureFault.{CaptureFault}
use Rattle.link_capture_grammar.specs.Captures.{first_fault, texts}
use Rattle.link_capture_grammar.specs.Faults.{fault_text}
use Rattle.link_capture_grammar.specs.Numbers.{attribute_count, frame_count}
use Rattle.link_capture_grammar.specs.Body.{link_body}

-- The text after the texts of a capture: its numbers, or its first fault.
abbrev pub outcome_text : ℕ → List ℕ → Option CaptureFault → List ℕ
outcome_text limit capture None =
    decimal (frame_count link_body limit capture) ++
    (codes " " ++ (decimal (attribute_count link_body limit capture) ++ (codes " " ++ decimal (length (texts link_body limit capture)))))
outcome_text limit capture (Some fault) = fault_text fault

-- The numbers of a legal capture, or the first fault.
abbrev pub measure_text : ℕ → List ℕ → List ℕ
measure_text limit capture = outcome_text limit capture (first_fault link_body limit capture)

-- The result for a capture: the texts of the frames before the first fault in hex, a space, and the numbers or the
-- fault.
abbrev pub expected_line : ℕ → List ℕ → List ℕ
expected_line limit capture = encode_lower (texts link_body limit capture) ++ (codes " " ++ measure_text limit capture)
