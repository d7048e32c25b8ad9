-- What a call writes of one piece of a capture.
use Rattle.std.specs.Prelude.{◌≡◌, ◌≢◌, ◌==◌, ℕ, ◌+◌, ◌%◌, ◌^◌, ◌<◌, ◌≤◌, ◌⊎◌, not, Bool, true, false, cond}
use Rattle.std.specs.Prelude.{List, [], ◌++◌, length, take, drop, Option, None, Some, Ok, Err}
use Rattle.netlink_packet_core_grammar.specs.Attributes.{nla_align}
use Rattle.netlink_packet_core_grammar.specs.Frames.{frame_length}
use Rattle.link_capture_grammar.specs.declared.fault.FaultKind.{FaultKind}
use Rattle.link_capture_grammar.specs.declared.fault.FaultKind.TheVariants.{Cut, Memory}
use Rattle.link_capture_grammar.specs.Captures.{first_frame, IsLegal}
use Rattle.link_lines.specs.Outcomes.{IsAccepted, IsToBeShown}
use Rattle.link_lines.specs.Pieces.{IsShownAs, first_message, goes_past}
use Rattle.link_lines.specs.declared.messages.ShownMessage.{ShownMessage}
use Rattle.link_lines.specs.declared.messages.ShownMessage.TheVariants as Outcome
use Rattle.linkcap_c.specs.Buffers.{Holds}
use Rattle.linkcap_c.specs.Findings.{ReportsFault, fault_of}
use Rattle.linkcap_c.specs.Forms.{Form, Form.Text, Form.Lines, keeps_going, stop_at, written_at}
use Rattle.linkcap_c.specs.declared.findings.LinkcapFinding.{LinkcapFinding}
use Rattle.linkcap_c.specs.declared.pieces.Stop.{Stop}
use Rattle.linkcap_c.specs.declared.pieces.Stop.TheVariants as Why
use Rattle.linkcap_c.specs.declared.pieces.Written.{Written}
use Rattle.linkcap_c.specs.declared.writing.LinkcapPiece.{LinkcapPiece}
use Rattle.linkcap_c.specs.declared.writing.LinkcapProgress.{LinkcapProgress}
use Rattle.link_capture_grammar.specs.Body.{link_body}

-- ---- one message

-- The result for the first message of c, which is at an offset of a capture: it has this length, and what is written of
-- it was appended; or writing stops there.
abbrev pub IsPushed : Form → ℕ → ℕ → List ℕ → List ℕ → List ℕ → ShownMessage → Type 0
IsPushed (Lines o) limit offset c old new shown = IsShownAs o limit offset c old new shown
IsPushed Text limit offset c old new (Outcome.Accepted n) =
    (text : List ℕ) × (first_frame link_body limit c ≡ Ok (n, text)) × (new ≡ old ++ text)
IsPushed Text limit offset c old new (Outcome.Faulty kind n) = ⊥
IsPushed Text limit offset c old new (Outcome.Stopped kind) = (first_frame link_body limit c ≡ Err kind) × (new ≡ old)

-- The first message of c is accepted, or has this fault, and those after it are written too.
abbrev pub HasFault : Bool → ℕ → List ℕ → Option FaultKind → Type 0
HasFault keep_going limit c None = IsAccepted limit c
HasFault keep_going limit c (Some kind) = (first_frame link_body limit c ≡ Err kind) × (goes_past keep_going kind ≡ true)

-- The first message of c, which is at an offset of a capture, is written to the start of a buffer.
pub record WritesMessage (f : Form) (limit offset : ℕ) (last : Bool) (c old new : List ℕ) (w : Written) : Type 0 where
  pub goes_on : stop_at f limit offset (first_message c) ≡ None
  pub read : w.read ≡ length (first_message c)
  pub padded : last ≡ false → w.read ≡ nla_align (frame_length c)
  pub wrote : w.wrote ≡ length (written_at f limit offset (first_message c))
  pub held : new ≡ written_at f limit offset (first_message c) ++ drop w.wrote old
  pub fault : HasFault (keeps_going f) limit c w.fault

-- ---- a piece

-- `used` bytes at the start of c, which is at an offset of a capture, were used: writing doesn't stop in them, and what
-- is written of them has the length `size`.
pub record IsWrittenTo (f : Form) (limit offset : ℕ) (last : Bool) (c : List ℕ) (used size : ℕ) : Type 0 where
  pub inside : used ≤ length c
  pub padded : (used % 4 ≡ 0) ⊎ ((last ≡ true) × (used ≡ length c))
  pub goes_on : stop_at f limit offset (take used c) ≡ None
  pub written : size ≡ length (written_at f limit offset (take used c))

-- The first message is to be written, and its padding is incomplete.
abbrev pub LacksPadding : Bool → ℕ → List ℕ → Type 0
LacksPadding keep_going limit rest = IsToBeShown keep_going limit rest × (length rest < nla_align (frame_length rest))

-- The last piece is used up; or these bytes don't begin with a whole message and its padding.
abbrev pub IsEnded : Bool → ℕ → Bool → List ℕ → Type 0
IsEnded keep_going limit true rest = rest ≡ []
IsEnded keep_going limit false rest = (first_frame link_body limit rest ≡ Err Cut) ⊎ LacksPadding keep_going limit rest

-- The first message has this fault, and more bytes can't mend it.
pub record IsFaulty (limit : ℕ) (last : Bool) (rest : List ℕ) (kind : FaultKind) : Type 0 where
  pub more : 0 < length rest
  pub is : first_frame link_body limit rest ≡ Err kind
  pub for_good : last ≡ false → kind ≢ Cut

-- What is written of the first message of these bytes, at an offset of a capture, has `wanted` bytes.
abbrev pub Needs : Form → ℕ → ℕ → List ℕ → ℕ → Type 0
Needs f limit offset rest wanted =
    IsToBeShown (keeps_going f) limit rest × (wanted ≡ length (written_at f limit offset (first_message rest)))

-- Why writing stopped before the first message of these bytes, at an offset of a capture, when the buffer had a
-- capacity of `room` bytes left.
abbrev pub Stops : Form → ℕ → ℕ → Bool → List ℕ → ℕ → Stop → Type 0
Stops f limit offset last rest room Why.Ended = IsEnded (keeps_going f) limit last rest
Stops f limit offset last rest room (Why.Fault kind) =
    IsFaulty limit last rest kind × (goes_past (keeps_going f) kind ≡ false)
Stops f limit offset last rest room (Why.Room wanted) = (room < wanted) × Needs f limit offset rest wanted
Stops f limit offset last rest room Why.Memory = IsToBeShown (keeps_going f) limit rest

-- How far c is used if the message at the offset `at` has this fault: up to the message, or, if those after it are
-- written too, up to its end.
abbrev pub used_of : Bool → FaultKind → ℕ → List ℕ → ℕ
used_of keep_going kind at c = cond (goes_past keep_going kind) (at + length (first_message (drop at c))) at

-- Why writing stopped at the message at the offset `at` of c, after `used` bytes.
abbrev pub StopsAfter : Form → ℕ → ℕ → Bool → List ℕ → ℕ → ℕ → ℕ → Stop → Type 0
StopsAfter f limit offset last c used at room (Why.Fault kind) =
    IsFaulty limit last (drop at c) kind × (used ≡ used_of (keeps_going f) kind at c)
StopsAfter f limit offset last c used at room stop =
    (at ≡ used) × Stops f limit (offset + used) last (drop used c) room stop

-- The bytes of c before the offset `at` are legal, and a message starts there.
pub record IsLegalTo (limit : ℕ) (last : Bool) (c : List ℕ) (at : ℕ) : Type 0 where
  pub inside : at ≤ length c
  pub legal : IsLegal link_body limit (take at c)
  pub padded : (at % 4 ≡ 0) ⊎ ((last ≡ true) × (at ≡ length c))

-- ---- the whole capture

-- The bytes of a capture before a piece at an offset: writing doesn't stop in them. For texts they are legal.
pub record IsBefore (f : Form) (limit offset : ℕ) (before : List ℕ) : Type 0 where
  pub size : length before ≡ offset
  pub padded : offset % 4 ≡ 0
  pub goes_on : stop_at f limit 0 before ≡ None

-- What is used of a piece is written after the bytes before it, independently of these; and if more is to come, it is
-- before that.
pub record Continues (f : Form) (limit offset : ℕ) (last : Bool) (used before : List ℕ) : Type 0 where
  pub goes_on : stop_at f limit 0 (before ++ used) ≡ None
  pub written : written_at f limit 0 (before ++ used) ≡ written_at f limit 0 before ++ written_at f limit offset used
  pub next : last ≡ false → IsBefore f limit (offset + length used) (before ++ used)

-- A piece follows other bytes, and more bytes follow the piece. Nothing is written after the `used` bytes of the piece,
-- since the message there has this fault.
pub record StopsWhole (f : Form) (limit offset : ℕ) (kind : FaultKind) (used : ℕ) (piece before more : List ℕ)
    : Type 0 where
  pub fault : stop_at f limit 0 (before ++ (piece ++ more)) ≡ Some (record { kind = kind; offset = offset + used })
  pub written : written_at f limit 0 (before ++ (piece ++ more)) ≡
      written_at f limit 0 before ++ written_at f limit offset (take used piece)

-- ---- results

-- The first fault of a piece is reported: of the message at the offset `at`, of which more bytes can't mend it.
pub record ReportsFirst (f : Form) (limit offset : ℕ) (last : Bool) (piece : List ℕ) (used : ℕ)
    (fault : LinkcapFinding) : Type 0 where
  pub kind : FaultKind
  pub at : ℕ
  pub reported : fault ≡ fault_of 0 (record { kind = kind; offset = offset + at })
  pub legal : IsLegalTo limit last piece at
  pub there : IsFaulty limit last (drop at piece) kind
  -- its message is used too if those after it are written
  pub reaches : used ≡ used_of (keeps_going f) kind at piece
  -- it is the first fault of the whole, whatever legal capture is before and whatever follows
  pub first : (before more : List ℕ) → IsBefore Text limit offset before → (last ≡ true → more ≡ []) →
      ReportsFault 0 limit (before ++ (piece ++ more)) fault

-- What is written of a piece is at the start of a buffer.
pub record WritesPiece (f : Form) (limit offset : ℕ) (last : Bool) (piece : List ℕ) (status : ℕ)
    (progress : LinkcapProgress) (found : LinkcapFinding) (old new : List ℕ) : Type 0 where
  pub used : IsWrittenTo f limit offset last piece progress.used progress.written
  pub written : Holds (written_at f limit offset (take progress.used piece)) progress.written old new
  pub legal : status ≢ 2 → IsLegal link_body limit (take progress.used piece)
  pub ended : status ≡ 0 → IsEnded (keeps_going f) limit last (drop progress.used piece)
  pub fault : status ≡ 2 → ReportsFirst f limit offset last piece progress.used found
  pub room : status ≡ 4 → (length old < progress.written + progress.wanted) ×
      Needs f limit (offset + progress.used) (drop progress.used piece) progress.wanted
  pub memory : status ≡ 5 → (found ≡ fault_of 0 (record { kind = Memory; offset = offset + progress.used })) ×
      IsToBeShown (keeps_going f) limit (drop progress.used piece)
  pub nothing_wanted : status ≢ 4 → progress.wanted ≡ 0
  -- what the pieces write one after the other is what the whole writes
  pub continues : (before : List ℕ) → IsBefore f limit offset before →
      Continues f limit offset last (take progress.used piece) before
  -- and where writing stops, the whole writes no more
  pub stops : status ≡ 2 → found.offset ≡ offset + progress.used → (before more : List ℕ) →
      IsBefore f limit offset before → (last ≡ true → more ≡ []) →
      (kind : FaultKind) × (found ≡ fault_of 0 (record { kind = kind; offset = offset + progress.used })) ×
      StopsWhole f limit offset kind progress.used piece before more

-- Whether a piece is the last.
abbrev pub is_last : LinkcapPiece → Bool
is_last piece = not (piece.last == 0)

-- A piece is valid: it ends before 2^64 bytes of the capture.
pub record IsValid (piece : LinkcapPiece) : Type 0 where
  pub reserved : piece.reserved ≡ 0
  pub fits : piece.offset + length piece.bytes.now < 2 ^ 64

-- A piece isn't valid.
abbrev pub IsInvalid : LinkcapPiece → Type 0
IsInvalid piece = (piece.reserved ≢ 0) ⊎ (2 ^ 64 ≤ piece.offset + length piece.bytes.now)
