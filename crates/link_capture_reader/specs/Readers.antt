-- The strings that a reader of a capture is consistent with, and what its calls append.
use Rattle.std.specs.Prelude.{◌≡◌, ℕ, ◌+◌, ◌-◌, ◌^◌, ◌%◌, ◌<◌, ◌≤◌, List, [], ◌++◌, length, take, drop, Option, None}
use Rattle.std.specs.Prelude.{Some, IfSome, ◌⊎◌, Ok, Err, Vec, vec_capacity}
use Rattle.link_capture_grammar.specs.declared.fault.FaultKind.{FaultKind}
use Rattle.link_capture_grammar.specs.declared.fault.FaultKind.TheVariants.{Cut, Memory, Read, Write, TooLong, Failed}
use Rattle.link_capture_grammar.specs.declared.fault.CaptureFault.{CaptureFault}
use Rattle.netlink_packet_core_grammar.specs.Attributes.{nla_align}
use Rattle.link_capture_grammar.specs.Captures.{first_frame, first_fault, texts, ReachesFrameAt}
use Rattle.link_capture_grammar.specs.Body.{link_body}

-- The state of a reader: its limit, how many bytes it has accepted, the bytes of the cut frame, how many bytes it can
-- keep without an allocation, how many bytes of padding are owed, and the offset of the first error of `feed`.
pub record ReaderState : Type 0 where
  pub limit : ℕ
  pub accepted : ℕ
  pub kept : List ℕ
  pub capacity : ℕ
  pub owed : ℕ
  pub failed : Option ℕ

-- The invariant of readers: between pieces a reader keeps the bytes of a cut frame, fewer than the limit; it keeps none
-- if no frame is cut, if padding is owed, or after a fault. A frame of no bytes is cut too.
pub record IsReader (r : ReaderState) : Type 0 where
  pub limit : 16 ≤ r.limit
  pub cut : first_frame link_body r.limit r.kept ≡ Err Cut
  pub small : length r.kept < r.limit
  pub inside : length r.kept ≤ r.accepted
  pub owed : (r.owed ≡ 0) ⊎ (r.kept ≡ [])
  pub padding : r.owed < 4
  pub failed : IfSome r.failed (λ _. r.kept ≡ [])

-- s has no fault, nothing is kept, and `owed` bytes of padding are missing; or its first fault is `Cut`, the bytes from
-- there on are kept, and no padding is owed.
abbrev pub IsPendingAfter : Option CaptureFault → List ℕ → List ℕ → ℕ → Type 0
IsPendingAfter None s kept owed = (kept ≡ []) × (owed ≡ nla_align (length s) - length s)
IsPendingAfter (Some fault) s kept owed = (fault.kind ≡ Cut) × (kept ≡ drop fault.offset s) × (owed ≡ 0)

-- The state of a reader without a fault.
abbrev pub unfailed : ℕ → ℕ → List ℕ → ℕ → ℕ → ReaderState
unfailed limit accepted kept capacity owed =
    record { limit = limit; accepted = accepted; kept = kept; capacity = capacity; owed = owed; failed = None }

-- No bytes are kept; or the capacity holds the bytes of the cut frame and `size` more.
abbrev pub IsReservedIfCut : List ℕ → ℕ → ℕ → Type 0
IsReservedIfCut kept capacity size = (kept ≡ []) ⊎ (length kept + size ≤ capacity)

-- The first frame of c is accepted, or it is cut.
abbrev pub IsAcceptedOrCut : ℕ → List ℕ → Type 0
IsAcceptedOrCut limit c =
    ((frame : ℕ × List ℕ) × (first_frame link_body limit c ≡ Ok frame)) ⊎ (first_frame link_body limit c ≡ Err Cut)

-- The reader is consistent with the string s: it has met no fault, and it has accepted and kept what a reader of s has.
pub record IsConsistentWith (r : ReaderState) (s : List ℕ) : Type 0 where
  pub unfailed : r.failed ≡ None
  pub accepted : r.accepted ≡ length s
  pub rest : IsPendingAfter (first_fault link_body r.limit s) s r.kept r.owed

-- The bytes `new` are `old`, followed by what the texts of t have after those of s.
abbrev pub Gains : ℕ → List ℕ → List ℕ → List ℕ → List ℕ → Type 0
Gains limit s t old new = (more : List ℕ) × (texts link_body limit t ≡ texts link_body limit s ++ more) × (new ≡ old ++ more)

-- What holds if `feed` returns a fault of this kind at the offset `at`: s was accepted before, and this piece was fed. If
-- memory was reserved, it runs out only at a frame that is accepted or cut.
abbrev pub FeedFault : Type 0 → ℕ → List ℕ → List ℕ → List ℕ → List ℕ → FaultKind → ℕ → Type 0
FeedFault reserved limit s piece old new Memory at =
    (length s + length piece < 2 ^ 64) × ReachesFrameAt link_body limit (s ++ piece) at ×
    Gains limit s (take at (s ++ piece)) old new × (reserved → IsAcceptedOrCut limit (drop at (s ++ piece)))
FeedFault reserved limit s piece old new TooLong at =
    (2 ^ 64 ≤ length s + length piece) × (at ≡ length s) × (new ≡ old)
FeedFault reserved limit s piece old new Cut at = ⊥
FeedFault reserved limit s piece old new Read at = ⊥
FeedFault reserved limit s piece old new Write at = ⊥
FeedFault reserved limit s piece old new Failed at = ⊥
FeedFault reserved limit s piece old new kind at =
    (length s + length piece < 2 ^ 64) × (first_fault link_body limit (s ++ piece) ≡ Some (record { kind = kind; offset = at })) ×
    Gains limit s (s ++ piece) old new

-- At the offset `at` of c a frame can start.
abbrev pub IsFrameOffsetOf : List ℕ → ℕ → Type 0
IsFrameOffsetOf c at = (at < length c) × (at % 4 ≡ 0)

-- The frame at the offset `at` is accepted, and the vector had less capacity than what it held, the texts before the
-- frame and the frame's text need together.
abbrev pub LacksCapacityAt : {Z : Type 0} → ℕ → List ℕ → ℕ → Vec ℕ Z → Type 0
LacksCapacityAt limit c at old =
    (n : ℕ) × (text : List ℕ) × (first_frame link_body limit (drop at c) ≡ Ok (n, text)) ×
    (vec_capacity old < length old.items + (length (texts link_body limit (take at c)) + length text))

-- Why an allocation failed at the offset `at`: the vector lacked capacity, or the frame is cut, and its bytes had to be
-- kept.
abbrev pub NeedsMemory : {Z : Type 0} → ℕ → List ℕ → ℕ → Vec ℕ Z → Type 0
NeedsMemory limit c at old = LacksCapacityAt limit c at old ⊎ (first_frame link_body limit (drop at c) ≡ Err Cut)

-- If the kind of the fault is `Memory`, its offset is `start + at`, and `NeedsMemory` holds at `at`.
abbrev pub MemoryFaultIsJustified : {Z : Type 0} → ℕ → ℕ → List ℕ → CaptureFault → Vec ℕ Z → Type 0
MemoryFaultIsJustified limit start c fault old = fault.kind ≡ Memory →
    (at : ℕ) × (fault.offset ≡ start + at) × NeedsMemory limit c at old

-- The vector has gained the texts of c up to its first fault.
abbrev pub GainsTexts : {Y Z : Type 0} → ℕ → List ℕ → Vec ℕ Y → Vec ℕ Z → Type 0
GainsTexts limit c old new = new.items ≡ old.items ++ texts link_body limit c
