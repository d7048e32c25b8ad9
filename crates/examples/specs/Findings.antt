-- The results of comparing a capture with a golden file.
use Rattle.std.specs.Prelude.{◌≡◌, ◌≢◌, ℕ, List, Some}
use Rattle.link_capture.specs.Captures.{first_fault, texts, IsLegal}
use Rattle.examples.specs.declared.golden.Finding.{Finding}
use Rattle.examples.specs.declared.golden.Finding.TheVariants.{Golden, Changed, Fault, GoldenFault}
use Rattle.link_message.specs.Body.{link_body}

-- The result of comparing a capture with a golden file under a limit.
abbrev pub IsFinding : ℕ → List ℕ → List ℕ → Finding → Type 0
IsFinding limit golden capture Golden = IsLegal link_body limit golden × IsLegal link_body limit capture ×
    (texts link_body limit golden ≡ texts link_body limit capture)
IsFinding limit golden capture Changed = IsLegal link_body limit golden × IsLegal link_body limit capture ×
    (texts link_body limit golden ≢ texts link_body limit capture)
IsFinding limit golden capture (Fault fault) = IsLegal link_body limit golden × (first_fault link_body limit capture ≡ Some fault)
IsFinding limit golden capture (GoldenFault fault) = first_fault link_body limit golden ≡ Some fault
