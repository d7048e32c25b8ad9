-- The messages of a capture, one after the other.
use Rattle.std.proofs.Common.{◌≡◌, ℕ, ◌+◌, ◌<◌, ◌≤◌, min, Bool, true, false, cond, List, [], ◌∷◌, ◌++◌, length, take, drop, Ok, Err, refl, sym, ap, subst, ◌∙◌, arith}
use Rattle.std.proofs.lemmas.List.{length-take, take-append-drop, take-append-le}
use Rattle.netlink_packet_core_grammar.proofs.Numbers.{u32_at-append}
use Rattle.netlink_packet_core_grammar.specs.Attributes.{nla_align}
use Rattle.netlink_packet_core_grammar.specs.Frames.{BeginsWithFrame, frame_length, begins_with_frame}
use Rattle.netlink_packet_core_grammar.specs.Numbers.{u32_at}
use Rattle.link_message_grammar.specs.Body.{link_body}
use Rattle.link_capture_grammar.proofs.Frames.{first_frame_whole}
use Rattle.link_capture_grammar.proofs.WholeFrames.{frame_of_test, is_frame_of, whole_step, whole_stop}
use Rattle.link_capture_grammar.specs.Captures.{first_frame}
use Rattle.link_capture_grammar.specs.Laws.{FramesAreIndependent}
use Rattle.link_capture_grammar.specs.WholeFrames.{whole_frames, whole_within}
use Rattle.link_capture_grammar.specs.declared.fault.FaultKind.{FaultKind}
use Rattle.link_lines.specs.Messages.{Message, Message.Accepted, Message.Faulty, Message.Last, frame_of, frames_messages, is_of_body, messages_at, next_messages}
use Rattle.link_lines.specs.MessageLaws.{MessagesUnfold}

-- ---- the first message, whatever follows it

-- More bytes leave the first message as it is.
pub record IsUnchanged (limit : ℕ) (c d : List ℕ) : Type 0 where
  pub size : frame_length d ≡ frame_length c
  pub frame : frame_of d ≡ frame_of c
  pub judged : first_frame link_body limit d ≡ first_frame link_body limit c

pub unchanged_by_more : (limit : ℕ) (c more : List ℕ) → BeginsWithFrame c → IsUnchanged limit c (c ++ more)
unchanged_by_more limit c more f =
    let same : frame_length (c ++ more) ≡ frame_length c = u32_at-append c more (omega (arith, f.has_header)) in
    record {
      size = same;
      frame = ap (λ m. take m (c ++ more)) same ∙ take-append-le (frame_length c) c more f.within;
      judged = first_frame_whole link_body limit c more f.has_header f.within;
    }

-- A message with the bytes that follow it, or some of them.
pub record IsFrontOf (limit : ℕ) (c front : List ℕ) : Type 0 where
  pub begins_with_frame : BeginsWithFrame front
  pub unchanged : IsUnchanged limit front c

pub front_of : (limit m : ℕ) (c : List ℕ) → BeginsWithFrame c → frame_length c ≤ m → IsFrontOf limit c (take m c)
front_of limit m c f l =
    let front = take m c in
    let whole : front ++ drop m c ≡ c = take-append-drop m c in
    let size : length front ≡ min m (length c) = length-take m c in
    let same : frame_length c ≡ frame_length front = ap (u32_at 0) (sym whole) ∙ u32_at-append front (drop m c) (omega (arith, size, f.covers_header, f.within)) in
    let begins_with_frame : BeginsWithFrame front = record {
      has_header = omega (arith, size, l, f.covers_header, f.has_header);
      covers_header = omega (arith, same, f.covers_header);
      within = omega (arith, same, size, l, f.within);
    } in
    record { begins_with_frame = begins_with_frame; unchanged = subst (IsUnchanged limit front) whole (unchanged_by_more limit front (drop m c) begins_with_frame) }

pub accepted_frame : FramesAreIndependent link_body → (limit : ℕ) (c : List ℕ) (frame : ℕ × List ℕ) → first_frame link_body limit c ≡ Ok frame → BeginsWithFrame c
accepted_frame frames limit c frame e =
    let a = frames.accepted limit c frame e in
    record { has_header = a.header; covers_header = omega (arith, a.low, a.is); within = omega (arith, a.whole, a.is) }

-- ---- one message after the other

-- The first whole frame, and the messages after it.
first : (k : Bool) (limit offset : ℕ) (c : List ℕ) → BeginsWithFrame c →
    messages_at k limit offset c ≡ next_messages k offset (frame_of c) (first_frame link_body limit c) (messages_at k limit (offset + nla_align (frame_length c)) (drop (nla_align (frame_length c)) c))
unfolding messages_at
first k limit offset c f =
    let n = nla_align (frame_length c) in
    let front = take n c in
    let same = (front_of limit n c f (omega arith)).unchanged in
    let after = whole_frames (drop n c) in
    let more : ℕ → List Message = λ m. frames_messages k limit (offset + nla_align m) after.frames after.rest in
    ap (λ w. frames_messages k limit offset w.frames w.rest) (whole_step c (is_frame_of c f))
    ∙ ap (λ j. next_messages k offset (frame_of front) j (more (frame_length front))) (sym same.judged)
    ∙ ap (λ x. next_messages k offset x (first_frame link_body limit c) (more (frame_length front))) (sym same.frame)
    ∙ ap (λ m. next_messages k offset (frame_of c) (first_frame link_body limit c) (more m)) (sym same.size)

-- What begins with no whole frame is the last message.
only : (k : Bool) (limit offset b : ℕ) (c : List ℕ) → begins_with_frame (b ∷ c) ≡ false → messages_at k limit offset (b ∷ c) ≡ next_messages k offset (frame_of (b ∷ c)) (first_frame link_body limit (b ∷ c)) []
unfolding messages_at
only k limit offset b c h = ap (λ w. frames_messages k limit offset w.frames w.rest) (whole_stop (b ∷ c) h)

-- The messages of bytes of which the first frame has a fault.
pub at_fault : (k : Bool) (limit offset : ℕ) (c : List ℕ) (kind : FaultKind) → 0 < length c → first_frame link_body limit c ≡ Err kind → (more : List Message) × (messages_at k limit offset c ≡ next_messages k offset (frame_of c) (Err kind) more)
at_fault k limit offset [] kind l e = absurd (omega arith)
at_fault k limit offset (b ∷ c) kind l e =
    let x = b ∷ c in
    let after = messages_at k limit (offset + nla_align (frame_length x)) (drop (nla_align (frame_length x)) x) in
    elim (begins_with_frame x) as (λ t. begins_with_frame x ≡ t → (more : List Message) × (messages_at k limit offset x ≡ next_messages k offset (frame_of x) (Err kind) more)) [
      | true ↦ (λ h. (after, first k limit offset x (frame_of_test x h) ∙ ap (λ j. next_messages k offset (frame_of x) j after) e))
      | false ↦ (λ h. ([], only k limit offset b c h ∙ ap (λ j. next_messages k offset (frame_of x) j []) e))
    ] refl

accepted_next : FramesAreIndependent link_body → (k : Bool) (limit offset : ℕ) (c : List ℕ) (frame : ℕ × List ℕ) → first_frame link_body limit c ≡ Ok frame → messages_at k limit offset c ≡ Accepted offset frame.1 ∷ messages_at k limit (offset + nla_align frame.0) (drop (nla_align frame.0) c)
accepted_next frames k limit offset c frame e =
    first k limit offset c (accepted_frame frames limit c frame e)
    ∙ ap (λ j. next_messages k offset (frame_of c) j (messages_at k limit (offset + nla_align (frame_length c)) (drop (nla_align (frame_length c)) c))) e
    ∙ ap (λ m. Accepted offset frame.1 ∷ messages_at k limit (offset + nla_align m) (drop (nla_align m) c)) (frames.accepted limit c frame e).is

-- by what the fault is of, and whether showing goes on
by_fault : (offset : ℕ) (frame : List ℕ) (kind : FaultKind) (more : List Message) (k of_body : Bool) → is_of_body kind ≡ of_body → next_messages k offset frame (Err kind) more ≡ cond of_body (cond k (Faulty offset kind frame ∷ more) (Last offset kind frame ∷ [])) (Last offset kind [] ∷ [])
by_fault offset frame kind more k of_body b = ap (λ x. cond x (cond k (Faulty offset kind frame ∷ more) (Last offset kind frame ∷ [])) (Last offset kind [] ∷ [])) b

faulty_next : (limit offset : ℕ) (c : List ℕ) (kind : FaultKind) → first_frame link_body limit c ≡ Err kind → is_of_body kind ≡ true → BeginsWithFrame c →
    messages_at true limit offset c ≡ Faulty offset kind (frame_of c) ∷ messages_at true limit (offset + nla_align (frame_length c)) (drop (nla_align (frame_length c)) c)
faulty_next limit offset c kind e body frame =
    let after = messages_at true limit (offset + nla_align (frame_length c)) (drop (nla_align (frame_length c)) c) in
    first true limit offset c frame ∙ ap (λ j. next_messages true offset (frame_of c) j after) e ∙ by_fault offset (frame_of c) kind after true true body

stopped_next : (limit offset : ℕ) (c : List ℕ) (kind : FaultKind) → first_frame link_body limit c ≡ Err kind → is_of_body kind ≡ true → BeginsWithFrame c → messages_at false limit offset c ≡ Last offset kind (frame_of c) ∷ []
stopped_next limit offset c kind e body frame =
    let m = at_fault false limit offset c kind (omega (arith, frame.has_header)) e in
    m.1 ∙ by_fault offset (frame_of c) kind m.0 false true body

invalid_next : (k : Bool) (limit offset b : ℕ) (c : List ℕ) (kind : FaultKind) → first_frame link_body limit (b ∷ c) ≡ Err kind → is_of_body kind ≡ false → messages_at k limit offset (b ∷ c) ≡ Last offset kind [] ∷ []
invalid_next k limit offset b c kind e body =
    let m = at_fault k limit offset (b ∷ c) kind (omega arith) e in
    m.1 ∙ by_fault offset (frame_of (b ∷ c)) kind m.0 k false body

none : (k : Bool) (limit offset : ℕ) → messages_at k limit offset [] ≡ []
unfolding messages_at whole_within
none k limit offset = refl

pub messages_unfold : FramesAreIndependent link_body → MessagesUnfold
messages_unfold frames = record {
  none = none;
  accepted = accepted_next frames;
  faulty = faulty_next;
  stopped = stopped_next;
  invalid = invalid_next;
}
