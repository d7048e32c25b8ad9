-- The texts of faults, as programs print them.
use Rattle.std.specs.Prelude.{ℕ, List, ◌++◌, codes}
use Rattle.std.specs.Fmt.{decimal}
use Rattle.link_capture_grammar.specs.declared.fault.FaultKind.{FaultKind}
use Rattle.link_capture_grammar.specs.declared.fault.FaultKind.TheVariants.{Cut, ShortLength, OverLimit, Refused}
use Rattle.link_capture_grammar.specs.declared.fault.FaultKind.TheVariants.{EmptyPorts, Unfit, TextOverLimit, Memory}
use Rattle.link_capture_grammar.specs.declared.fault.FaultKind.TheVariants.{Read, Write, TooLong, Failed}
use Rattle.link_capture_grammar.specs.declared.fault.CaptureFault.{CaptureFault}

-- The text of each kind of fault.
abbrev pub words : FaultKind → List ℕ
words Cut = codes "cut frame"
words ShortLength = codes "length under 16"
words OverLimit = codes "frame over the limit"
words Refused = codes "refused body"
words EmptyPorts = codes "ports with foreign entries alone"
words Unfit = codes "attribute over 65535"
words TextOverLimit = codes "normal text over the limit"
words Memory = codes "no memory"
words Read = codes "read failed"
words Write = codes "write failed"
words TooLong = codes "capture too long"
words Failed = codes "failed before"

-- The text of a fault: that of its kind, ` at `, and the offset in decimal.
abbrev pub fault_text : CaptureFault → List ℕ
fault_text x = words x.kind ++ (codes " at " ++ decimal x.offset)
