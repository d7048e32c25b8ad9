-- The text of the fault of one of two captures.
use Rattle.std.specs.Prelude.{ℕ, Bool, List, ◌++◌, cond, codes}
use Rattle.link_capture_grammar.specs.Faults.{fault_text}
use Rattle.link_capture_checks.specs.declared.sameness.SideFault.{SideFault}

-- The word that says which capture has the fault.
abbrev pub side_name : Bool → List ℕ
side_name second = cond second (codes "second: ") (codes "first: ")

-- The text of the fault of one of two captures: which one, the kind and the offset.
abbrev pub side_text : SideFault → List ℕ
side_text x = side_name x.second ++ fault_text x.fault
