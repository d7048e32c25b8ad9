-- The report of the first fault.
use Rattle.std.proofs.Common.{◌≡◌, ℕ, ◌+◌, Bool, true, false, List, [], ◌∷◌, drop, Option, Some, None, Err, refl, sym, ap, ◌∙◌, arith}
use Rattle.std.proofs.lemmas.List.{drop-drop}
use Rattle.std.specs.Prelude.{option_map}
use Rattle.netlink_packet_core_grammar.specs.Attributes.{nla_align}
use Rattle.link_message_grammar.specs.Body.{link_body}
use Rattle.link_capture_grammar.specs.Captures.{first_frame, first_fault, shifted}
use Rattle.link_capture_grammar.specs.declared.fault.CaptureFault.{CaptureFault}
use Rattle.link_capture_grammar.specs.declared.fault.FaultKind.{FaultKind}
use Rattle.link_capture_grammar.specs.declared.fault.FaultKind.TheVariants.{Refused, EmptyPorts, Unfit, TextOverLimit}
use Rattle.link_lines.specs.Messages.{Message, Report, first_report, frame_of, messages_at, next_messages, report_of}
use Rattle.link_capture_grammar.proofs.Frames.{by_frames, fault_nil, fault_step, fault_stop}
use Rattle.link_lines.proofs.Walk.{at_fault}
use Rattle.link_lines.specs.MessageLaws.{FirstFaultsAreReported, MessagesUnfold, report_of_fault}

-- The report of a fault in bytes at an offset, by the fault's offset in them.
abbrev at_offset : ℕ → List ℕ → CaptureFault → Report
at_offset offset c fault = report_of (offset + fault.offset) fault.kind (frame_of (drop fault.offset c))

-- The fault of a message is reported, whether or not showing continues.
last_reported : (k : Bool) (offset : ℕ) (frame : List ℕ) (kind : FaultKind) (more : List Message) → first_report (next_messages k offset frame (Err kind) more) ≡ Some (report_of offset kind frame)
last_reported true offset frame Refused more = refl
last_reported false offset frame Refused more = refl
last_reported true offset frame EmptyPorts more = refl
last_reported false offset frame EmptyPorts more = refl
last_reported true offset frame Unfit more = refl
last_reported false offset frame Unfit more = refl
last_reported true offset frame TextOverLimit more = refl
last_reported false offset frame TextOverLimit more = refl
last_reported k offset frame kind more = refl

-- A fault after a frame.
further : (offset n : ℕ) (c : List ℕ) (o : Option CaptureFault) → option_map (at_offset (offset + n) (drop n c)) o ≡ option_map (at_offset offset c) (shifted n o)
further offset n c None = refl
further offset n c (Some f) =
    let there : (offset + n) + f.offset ≡ offset + (n + f.offset) = omega arith in
    ap (λ m. Some (report_of m f.kind (frame_of (drop f.offset (drop n c))))) there
    ∙ ap (λ x. Some (report_of (offset + (n + f.offset)) f.kind (frame_of x))) (drop-drop f.offset n c)

ended : MessagesUnfold → (k : Bool) (limit : ℕ) (c : List ℕ) (kind : FaultKind) → first_frame link_body limit c ≡ Err kind → (offset : ℕ) → first_report (messages_at k limit offset c) ≡ option_map (at_offset offset c) (first_fault link_body limit c)
ended messages k limit [] kind h offset = ap first_report (messages.none k limit offset) ∙ sym (ap (option_map (at_offset offset [])) (fault_nil link_body limit))
ended messages k limit (b ∷ c) kind h offset =
    let m = at_fault k limit offset (b ∷ c) kind (omega arith) h in
    let here : offset ≡ offset + 0 = omega arith in
    ap first_report m.1
    ∙ last_reported k offset (frame_of (b ∷ c)) kind m.0
    ∙ ap (λ n. Some (report_of n kind (frame_of (b ∷ c)))) here
    ∙ sym (ap (option_map (at_offset offset (b ∷ c))) (fault_stop link_body limit (b ∷ c) kind (omega arith) h))

reported_at : MessagesUnfold → (k : Bool) (limit : ℕ) (c : List ℕ) (offset : ℕ) → first_report (messages_at k limit offset c) ≡ option_map (at_offset offset c) (first_fault link_body limit c)
reported_at messages k limit =
    by_frames link_body limit (λ c. (offset : ℕ) → first_report (messages_at k limit offset c) ≡ option_map (at_offset offset c) (first_fault link_body limit c))
    (λ c frame h more offset.
    let n = nla_align frame.0 in
    ap first_report (messages.accepted k limit offset c frame h) ∙ more (offset + n) ∙ further offset n c (first_fault link_body limit (drop n c))
    ∙ sym (ap (option_map (at_offset offset c)) (fault_step link_body limit c frame h)))
    (ended messages k limit)

-- The same report from the start.
from_start : (c : List ℕ) (o : Option CaptureFault) → option_map (at_offset 0 c) o ≡ option_map (report_of_fault c) o
from_start c None = refl
from_start c (Some f) =
    let there : 0 + f.offset ≡ f.offset = omega arith in
    ap (λ n. Some (report_of n f.kind (frame_of (drop f.offset c)))) there

pub first_faults_are_reported : MessagesUnfold → FirstFaultsAreReported
first_faults_are_reported messages k limit c = reported_at messages k limit c 0 ∙ from_start c (first_fault link_body limit c)
