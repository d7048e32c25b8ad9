-- One of two captures that are compared: what was read of it, and how far it was judged.
use Rattle.std.specs.Prelude.{◌≡◌, ℕ, ◌+◌, ◌-◌, ◌%◌, ◌≤◌, Bool, true, false, List, [], ◌∷◌, length, take, drop}
use Rattle.std.specs.Prelude.{Option, None, Some, Result, Ok, Err}
use Rattle.netlink_packet_core_grammar.specs.Frames.{BeginsWithFrame, frame_length}
use Rattle.link_capture_grammar.specs.declared.fault.CaptureFault.{CaptureFault}
use Rattle.link_capture_grammar.specs.declared.fault.FaultKind.TheVariants.{Cut}
use Rattle.link_capture_grammar.specs.Captures.{IsLegal}
use Rattle.link_capture_reader.specs.Devices.{IsPrefix}
use Rattle.link_capture_reader.specs.States.{SourceState}
use Rattle.link_capture_comparing.specs.Comparisons.{IsReadWhole, IsFaultOf}
use Rattle.link_capture_comparing.specs.Readings.{HasRead, ReadFailsAfter}
use Rattle.link_capture_comparing.specs.declared.side.Side.{Side}
use Rattle.link_capture_grammar.specs.Body.{link_body}

-- The bytes at hand: those that are kept, or if none are, those of the last piece.
abbrev pub window_of : List ℕ → List ℕ → List ℕ
window_of [] piece = piece
window_of (x ∷ kept) piece = x ∷ kept

-- The state of a side: its limit, how many bytes were read, the bytes at hand, where in these the next frame starts,
-- whether the source has reported its end, and the fault of the capture.
pub record SideState : Type 0 where
  pub limit : ℕ
  pub read : ℕ
  pub window : List ℕ
  pub from : ℕ
  pub ended : Bool
  pub fault : Option CaptureFault

-- The state of a side.
abbrev pub state_of : Side → SideState
state_of x = record {
  limit = x.limit;
  read = x.read;
  window = window_of x.kept.items (take x.piece_len x.buffer);
  from = x.from;
  ended = x.ended;
  fault = x.fault;
}

-- The state of a side of which nothing was read.
abbrev pub new_side : ℕ → SideState
new_side limit = record { limit = limit; read = 0; window = []; from = 0; ended = false; fault = None }

-- The bytes that were read and not passed.
abbrev pub rest_of : SideState → List ℕ
rest_of r = drop r.from r.window

-- The offset of the next frame.
abbrev pub offset_of : SideState → ℕ
offset_of r = (r.read - length r.window) + r.from

-- At the offset `at`, the next multiple of 4 after legal frames of s, the bytes `rest` remain.
pub record IsAt (limit : ℕ) (s rest : List ℕ) (at : ℕ) : Type 0 where
  pub start : at % 4 ≡ 0
  pub near : at ≤ length s + 3
  pub legal : IsLegal link_body limit (take at s)
  pub rest_is : rest ≡ drop at s

-- The side has passed legal frames of s, and the rest of s is at hand.
abbrev pub HasPassedFrames : SideState → List ℕ → Type 0
HasPassedFrames r s = IsAt r.limit s (rest_of r) (offset_of r)

-- The string t is s, or begins with s if the source hadn't reported its end.
abbrev pub Extends : Bool → List ℕ → List ℕ → Type 0
Extends ended s t = IsPrefix s t × (ended ≡ true → t ≡ s)

-- The fault is that of s; if it is `Cut`, the source has reported its end.
abbrev pub HasFault : SideState → List ℕ → CaptureFault → Type 0
HasFault r s fault = IsFaultOf r.limit s fault × (fault.kind ≡ Cut → r.ended ≡ true)

-- The side has a fault of s; or it has none, and has passed legal frames of s.
abbrev pub HasJudged : Option CaptureFault → SideState → List ℕ → Type 0
HasJudged None r s = HasPassedFrames r s
HasJudged (Some fault) r s = HasFault r s fault

-- The side has a fault of s; or it has none, and all of s was passed, which the source has reported to be all.
abbrev pub HasStopped : Option CaptureFault → SideState → List ℕ → Type 0
HasStopped None r s = HasPassedFrames r s × (rest_of r ≡ []) × (r.ended ≡ true)
HasStopped (Some fault) r s = HasFault r s fault

-- s is legal, or has this fault.
abbrev pub HasVerdict : Option CaptureFault → ℕ → List ℕ → Type 0
HasVerdict None limit s = IsLegal link_body limit s
HasVerdict (Some fault) limit s = IsFaultOf limit s fault

-- If a length is given, a frame of this length is at hand, and there is no fault before it.
abbrev pub IsAtFrame : SideState → Option ℕ → Type 0
IsAtFrame r None = Unit {0}
IsAtFrame r (Some len) =
    BeginsWithFrame (rest_of r) × (len ≡ frame_length (rest_of r)) × (len ≤ r.limit) × (r.fault ≡ None)

-- None: the side has stopped. Some: it has passed legal frames of s; `IsAtFrame` says which one is at hand.
abbrev pub HasStoppedOrPassed : Option ℕ → SideState → List ℕ → Type 0
HasStoppedOrPassed None r s = HasStopped r.fault r s
HasStoppedOrPassed (Some len) r s = HasPassedFrames r s

-- The side `before` had read s and is `after` now: t was read, which extends s, and `HasStoppedOrPassed` holds of `after`; or
-- reading failed.
abbrev pub FindsFrame : SourceState → SourceState → SideState → SideState → List ℕ → Result (Option ℕ) CaptureFault →
    Type 0
FindsFrame initial now before after s (Ok len) =
    (t : List ℕ) × Extends before.ended s t × HasRead initial now after.ended after.read t × HasStoppedOrPassed len after t
FindsFrame initial now before after s (Err fault) = ReadFailsAfter initial now s fault

-- The side had read s, and the source was read to its end, so that t was read, of which `Then` holds; or reading failed.
abbrev pub Finishes : {A : Type 0} → SourceState → SourceState → Bool → List ℕ → Result A CaptureFault →
    (List ℕ → Type 0) → Type 0
Finishes initial now ended s (Ok x) Then = (t : List ℕ) × Extends ended s t × IsReadWhole initial now t × Then t
Finishes initial now ended s (Err fault) Then = ReadFailsAfter initial now s fault

-- The side `before` had read s, and is `after` now, where it has stopped; or reading failed.
abbrev pub StopsJudging : {A : Type 0} → SourceState → SourceState → SideState → SideState → List ℕ →
    Result A CaptureFault → Type 0
StopsJudging initial now before after s (Ok x) =
    (t : List ℕ) × Extends before.ended s t × HasRead initial now after.ended after.read t × HasStopped after.fault after t
StopsJudging initial now before after s (Err fault) = ReadFailsAfter initial now s fault
