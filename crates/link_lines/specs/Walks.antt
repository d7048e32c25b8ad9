-- A walk over the messages of some bytes.
use Rattle.std.specs.Prelude.{◌≡◌, ℕ, ◌+◌, ◌<◌, ◌≤◌, Bool, true, false, List, [], ◌∷◌, ◌++◌, length, drop, Option}
use Rattle.std.specs.Prelude.{None, Some, Result, Ok, Err, nat_lt, option_map}
use Rattle.netlink_packet_core_grammar.specs.Attributes.{nla_align}
use Rattle.netlink_packet_core_grammar.specs.Frames.{BeginsWithFrame, frame_length}
use Rattle.link_capture_grammar.specs.Captures.{first_frame}
use Rattle.link_capture_grammar.specs.declared.fault.FaultKind.{FaultKind}
use Rattle.link_capture_grammar.specs.declared.fault.FaultKind.TheVariants.{Cut}
use Rattle.link_capture_refusals.specs.RefusalViews.{optional_found}
use Rattle.link_lines.specs.declared.messages.Judgement.{Judgement}
use Rattle.link_lines.specs.declared.messages.Judgement.TheVariants as J
use Rattle.link_lines.specs.declared.messages.Step.{Step}
use Rattle.link_lines.specs.declared.messages.Step.TheVariants.{Next, Stop}
use Rattle.link_lines.specs.declared.messages.Walked.{Walked}
use Rattle.link_lines.specs.declared.refused.ShowFault.{ShowFault}
use Rattle.link_lines.specs.Refused.{without_refusal}
use Rattle.link_lines.specs.MessageLines.{Selection, message_lines, lines_of_messages}
use Rattle.link_lines.specs.Messages.{Message, Report, first_report, frame_of, is_of_body, last_fault, messages_at}
use Rattle.link_lines.specs.Messages.{report_of}
use Rattle.link_message_grammar.specs.Body.{link_body}

-- The result for the first message of c: its length and this text; or the fault of its body, and its length; or the
-- fault of its header.
abbrev pub IsJudged : ℕ → List ℕ → List ℕ → Judgement → Type 0
IsJudged limit c text (J.Accepted n) = first_frame link_body limit c ≡ Ok (n, text)
IsJudged limit c text (J.Faulty kind n) =
    (first_frame link_body limit c ≡ Err kind) × (is_of_body kind ≡ true) × BeginsWithFrame c × (n ≡ frame_length c)
IsJudged limit c text (J.Invalid kind) = (first_frame link_body limit c ≡ Err kind) × (is_of_body kind ≡ false)

-- The report that a fault in code represents.
abbrev pub report_in : Option ShowFault → Option Report
report_in o = option_map (λ e. (e.fault, optional_found e.refusal)) o

-- The first of two reports.
abbrev pub or_else : Option Report → Option Report → Option Report
or_else None o = o
or_else (Some r) o = Some r

-- The message at the start of c, whatever follows c, is m, of n bytes.
abbrev pub IsFirst : Bool → ℕ → ℕ → List ℕ → Message → ℕ → Type 0
IsFirst keep_going limit offset c m n = (t : List ℕ) →
    messages_at keep_going limit offset (c ++ t) ≡
    m ∷ messages_at keep_going limit (offset + nla_align n) (drop (nla_align n) (c ++ t))

-- Showing stops at the first message of c: the fault is one of its header, or messages after it aren't to be shown.
abbrev pub StopsThere : Bool → ℕ → List ℕ → FaultKind → Type 0
StopsThere keep_going limit c kind =
    (first_frame link_body limit c ≡ Err kind) × (is_of_body kind ≡ true → (keep_going ≡ false) × BeginsWithFrame c)

-- The first message of c was shown or not: the lines grew from `old` to `new`, and the first report from `before` to
-- `now`.
abbrev pub Steps : Selection → ℕ → ℕ → List ℕ → List ℕ → List ℕ → Option Report → Option Report → Step → Type 0
Steps o limit offset c old new before now (Next n) =
    (m : Message) × IsFirst o.keep_going limit offset c m n × (16 ≤ n) × (n ≤ length c) ×
    (new ≡ old ++ message_lines o m) × (now ≡ or_else before (first_report (m ∷ []))) × (last_fault (m ∷ []) ≡ None)
Steps o limit offset c old new before now (Stop kind) =
    StopsThere o.keep_going limit c kind × (new ≡ old) × (now ≡ before)

-- From the offset `from` of c to the offset `to`, these are the messages, whatever follows c, which begins at the
-- offset `start` of a capture.
abbrev pub AreBetween : Bool → ℕ → ℕ → List ℕ → ℕ → ℕ → List Message → Type 0
AreBetween keep_going limit start c from to ms = (t : List ℕ) →
    messages_at keep_going limit (start + from) (drop from (c ++ t)) ≡
    ms ++ messages_at keep_going limit (start + to) (drop to (c ++ t))

-- The messages up to an offset were shown.
pub record Passes (o : Selection) (limit start : ℕ) (c : List ℕ) (from to : ℕ) (old new : List ℕ)
    (before now : Option Report) : Type 0 where
  pub messages : List Message
  pub between : AreBetween o.keep_going limit start c from to messages
  pub lines : new ≡ old ++ lines_of_messages o messages
  pub reports : now ≡ or_else before (first_report messages)
  pub goes_on : last_fault messages ≡ None

-- The offset up to which messages were shown: the end of the walk, or the start of the message for which memory ran out.
abbrev pub shown_to : Result Walked ℕ → ℕ
shown_to (Ok walked) = walked.len
shown_to (Err at) = at

-- The end of a walk: the bytes end, or a message stops it.
abbrev pub Ends : Bool → ℕ → List ℕ → ℕ → Option FaultKind → Type 0
Ends keep_going limit c to None = length c ≤ to
Ends keep_going limit c to (Some kind) = (to < length c) × StopsThere keep_going limit (drop to c) kind

-- The report of the message at an offset at which a walk ended, with which c begins.
abbrev pub last_report : ℕ → Option FaultKind → List ℕ → Option Report
last_report at None c = None
last_report at (Some kind) c = Some (report_of at kind (frame_of c))

-- The report that a result in code represents.
abbrev pub reported_by : Result (Unit {0}) ShowFault → Option Report
reported_by (Ok u) = None
reported_by (Err e) = report_in (Some e)

-- The result if this was reported, the bytes `rest` are left unshown at the offset, and `written` bytes were written: the
-- report; else `Cut` at the offset if there is a rest; else whether there are lines.
abbrev pub FinishedWith : Option Report → List ℕ → ℕ → ℕ → Result Bool ShowFault → Type 0
FinishedWith None [] offset written (Ok has_lines) = has_lines ≡ nat_lt 0 written
FinishedWith None [] offset written (Err e) = ⊥
FinishedWith None (b ∷ rest) offset written (Ok has_lines) = ⊥
FinishedWith None (b ∷ rest) offset written (Err e) = e ≡ without_refusal (record { kind = Cut; offset = offset })
FinishedWith (Some report) rest offset written (Ok has_lines) = ⊥
FinishedWith (Some report) rest offset written (Err e) = (e.fault, optional_found e.refusal) ≡ report

-- The bytes of a cut message, continued by a piece; none if no message is cut.
abbrev pub cut_with_piece : List ℕ → List ℕ → List ℕ
cut_with_piece [] piece = []
cut_with_piece (b ∷ cut) piece = b ∷ (cut ++ piece)

-- The bytes to be shown: those of a cut message that was continued, or else the piece.
abbrev pub left_to_show : List ℕ → List ℕ → List ℕ
left_to_show [] piece = piece
left_to_show (b ∷ rest) piece = b ∷ rest
