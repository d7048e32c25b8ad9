-- Faults and quirks as C has them.
use Rattle.std.specs.Prelude.{◌≡◌, ◌⊎◌, ℕ, ◌-◌, ◌^◌, Bool, cond, List, map, Option, None, Some, option_map}
use Rattle.link_capture_grammar.specs.declared.fault.FaultKind.{FaultKind}
use Rattle.link_capture_grammar.specs.declared.fault.FaultKind.TheVariants.{Cut, ShortLength, OverLimit, Refused}
use Rattle.link_capture_grammar.specs.declared.fault.FaultKind.TheVariants.{EmptyPorts, Unfit, TextOverLimit, Memory}
use Rattle.link_capture_grammar.specs.declared.fault.FaultKind.TheVariants.{Read, Write, TooLong, Failed}
use Rattle.link_capture_grammar.specs.declared.fault.CaptureFault.{CaptureFault}
use Rattle.link_capture_grammar.specs.Captures.{first_fault}
use Rattle.link_capture_checks.specs.Sides.{side_text}
use Rattle.link_capture_quirks.specs.declared.quirk_at.Quirk.{Quirk}
use Rattle.link_capture_quirks.specs.declared.quirk_at.Quirk.TheVariants.{NestedPortSettings, ResizedSettings}
use Rattle.link_capture_quirks.specs.declared.quirk_at.Quirk.TheVariants.{PathDiscoveryOverOne, TrailingPeer, LongAlias}
use Rattle.link_capture_quirks.specs.declared.quirk_at.Quirk.TheVariants.{NameWithoutNul, FlagWithPayload}
use Rattle.link_capture_quirks.specs.declared.quirk_at.Quirk.TheVariants.{BooleanOverOne, StrayNestedBit}
use Rattle.link_capture_quirks.specs.declared.quirk_at.Quirk.TheVariants.{UnexpectedFunction, HeaderByte, ShortMap}
use Rattle.link_capture_quirks.specs.declared.quirk_at.QuirkAt.{QuirkAt}
use Rattle.link_capture_quirks.specs.CaptureQuirks.{capture_quirks}
use Rattle.linkcap_c.specs.declared.findings.LinkcapFinding.{LinkcapFinding}
use Rattle.link_capture_grammar.specs.Body.{link_body}

-- the number of a kind of faults
abbrev pub kind_number : FaultKind → ℕ
kind_number Cut = 1
kind_number ShortLength = 2
kind_number OverLimit = 3
kind_number Refused = 4
kind_number EmptyPorts = 5
kind_number Unfit = 6
kind_number TextOverLimit = 7
kind_number Memory = 8
kind_number Read = 9
kind_number Write = 10
kind_number TooLong = 11
kind_number Failed = 12

-- the number of a quirk
abbrev pub quirk_number : Quirk → ℕ
quirk_number NestedPortSettings = 101
quirk_number ResizedSettings = 102
quirk_number PathDiscoveryOverOne = 103
quirk_number TrailingPeer = 104
quirk_number LongAlias = 105
quirk_number NameWithoutNul = 106
quirk_number FlagWithPayload = 107
quirk_number BooleanOverOne = 108
quirk_number StrayNestedBit = 109
quirk_number UnexpectedFunction = 110
quirk_number HeaderByte = 111
quirk_number ShortMap = 112

-- the number of one of two captures
abbrev pub side_number : Bool → ℕ
side_number second = cond second 2 1

-- a fault with this number of its side
abbrev pub fault_of : ℕ → CaptureFault → LinkcapFinding
fault_of side fault = record { kind = kind_number fault.kind; side = side; offset = fault.offset }

-- a quirk
abbrev pub quirk_of : QuirkAt → LinkcapFinding
quirk_of x = record { kind = quirk_number x.quirk; side = 0; offset = x.offset }

-- this is a fault, of a capture that is alone or of one of two
abbrev pub IsFault : LinkcapFinding → Type 0
IsFault f = (found : CaptureFault) × ((f ≡ fault_of 0 found) ⊎ (f ≡ fault_of 1 found) ⊎ (f ≡ fault_of 2 found))

-- this is a quirk
abbrev pub IsQuirk : LinkcapFinding → Type 0
IsQuirk f = (found : QuirkAt) × (f ≡ quirk_of found)

-- the words of a fault of the second of two captures, or of the first
abbrev pub words_of_side : Bool → CaptureFault → List ℕ
words_of_side second fault = side_text (record { second = second; fault = fault })

-- This is the first fault of a capture, with this number of its side.
abbrev pub ReportsFault : ℕ → ℕ → List ℕ → LinkcapFinding → Type 0
ReportsFault side limit c fault = option_map (fault_of side) (first_fault link_body limit c) ≡ Some fault

-- the quirks of a capture before its first fault, in the order of its bytes
abbrev pub found_quirks : ℕ → List ℕ → List LinkcapFinding
found_quirks limit c = map quirk_of (capture_quirks limit c)

-- The number for an offset: 2^64 - 1 if there is none.
abbrev pub offset_number : Option ℕ → ℕ
offset_number None = 2 ^ 64 - 1
offset_number (Some offset) = offset
