-- The result of reading the bytes of a piece.
use Rattle.std.specs.Prelude.{◌≡◌, ◌≢◌, ℕ, ◌+◌, ◌%◌, ◌≤◌, List, ◌++◌, length, take, drop, Some}
use Rattle.link_capture_grammar.specs.declared.fault.FaultKind.TheVariants.{Cut, Memory}
use Rattle.link_capture_grammar.specs.declared.fault.CaptureFault.{CaptureFault}
use Rattle.link_capture_grammar.specs.Captures.{first_fault, texts, shifted, IsLegal, ReachesFrameAt}
use Rattle.link_capture_reader.specs.Readers.{IsAcceptedOrCut, IsPendingAfter}
use Rattle.link_capture_grammar.specs.Body.{link_body}

-- After c was read, these bytes are kept and this padding is owed, and the texts of c are appended.
abbrev pub ReadsTo : ℕ → List ℕ → List ℕ → List ℕ → List ℕ → ℕ → Type 0
ReadsTo limit c old new kept owed = IsPendingAfter (first_fault link_body limit c) c kept owed × (new ≡ old ++ texts link_body limit c)

-- Let c be at the offset `start` of a capture. If the kind of the fault isn't `Memory`, it isn't `Cut` either, the fault is
-- the first one of c, shifted by `start`, and the texts of c are appended.
abbrev pub OtherFaultIsFirst : ℕ → ℕ → List ℕ → List ℕ → List ℕ → CaptureFault → Type 0
OtherFaultIsFirst limit start c old new fault = fault.kind ≢ Memory →
    (fault.kind ≢ Cut) × (shifted start (first_fault link_body limit c) ≡ Some fault) × (new ≡ old ++ texts link_body limit c)

-- Let c be at the offset `start` of a capture. If the kind of the fault is `Memory`, memory ran out at the start of a frame
-- of c, and the texts before that frame are appended; if memory was reserved, the frame is accepted or cut.
abbrev pub MemoryFaultIsAtFrame : Type 0 → ℕ → ℕ → List ℕ → List ℕ → List ℕ → CaptureFault → Type 0
MemoryFaultIsAtFrame reserved limit start c old new fault = fault.kind ≡ Memory →
    (at : ℕ) × (fault.offset ≡ start + at) × ReachesFrameAt link_body limit c at × (new ≡ old ++ texts link_body limit (take at c)) ×
    (reserved → IsAcceptedOrCut limit (drop at c))

-- The first `at` bytes of c were read: they are legal, and end at a multiple of 4.
pub record IsLegalUpTo (limit : ℕ) (c : List ℕ) (at : ℕ) : Type 0 where
  pub inside : at ≤ length c
  pub start : at % 4 ≡ 0
  pub legal : IsLegal link_body limit (take at c)
