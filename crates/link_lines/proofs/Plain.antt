-- A capture shown without offsets up to its first fault.
use Rattle.std.proofs.Common.{◌≡◌, ℕ, ◌+◌, ◌^◌, ◌<◌, Bool, true, false, cond, List, [], ◌∷◌, ◌++◌, take, drop, Ok, Err, refl, sym, ap, ◌∙◌, arith}
use Rattle.netlink_packet_core_grammar.specs.Attributes.{nla_align}
use Rattle.link_message_grammar.specs.Body.{link_body}
use Rattle.link_capture_grammar.specs.Captures.{first_frame, texts}
use Rattle.link_capture_grammar.specs.Laws.{CapturesUnfoldByFrames}
use Rattle.link_capture_grammar.proofs.Frames.{by_frames, texts_step, texts_stop}
use Rattle.link_capture_grammar.specs.declared.fault.FaultKind.{FaultKind}
use Rattle.link_lines.specs.MessageLaws.{NothingOmittedKeepsAll}
use Rattle.link_lines_texts.specs.Captures.{Choice, text_lines}
use Rattle.link_lines_texts.specs.Laws.{LinesAreJoined}
use Rattle.link_lines.specs.MessageLaws.{LinesOfMessagesAreOfTexts, MessagesUnfold, plain}
use Rattle.link_lines.specs.MessageLines.{lines_of_messages}
use Rattle.link_lines.specs.Messages.{Message, Message.Accepted, Message.Last, frame_of, is_of_body, messages_at}
use Rattle.link_lines.proofs.Joined.{no_lines}
use Rattle.link_lines.proofs.Walk.{at_fault}

module _ (choice : Choice) (go : CapturesUnfoldByFrames link_body) (messages : MessagesUnfold) (joined : LinesAreJoined) (all : NothingOmittedKeepsAll) (limit : ℕ) (small : limit < 2 ^ 32) where
  stopped : (offset : ℕ) (frame : List ℕ) (kind : FaultKind) (b : Bool) → lines_of_messages (plain choice) (cond b (Last offset kind frame ∷ []) (Last offset kind [] ∷ [])) ≡ []
  unfolding lines_of_messages
  stopped offset frame kind true = refl
  stopped offset frame kind false = refl

  plain_next : (offset : ℕ) (c : List ℕ) (frame : ℕ × List ℕ) → first_frame link_body limit c ≡ Ok frame → (ms : List Message) (rest : List ℕ) → lines_of_messages (plain choice) ms ≡ text_lines choice rest →
      lines_of_messages (plain choice) (Accepted offset frame.1 ∷ ms) ≡ text_lines choice (frame.1 ++ rest)
  unfolding lines_of_messages
  plain_next offset c frame e ms rest more =
      let text = go.one_frame_text limit c frame e in
      ap (λ x. x ++ lines_of_messages (plain choice) ms) (all false (text_lines choice frame.1))
      ∙ ap (λ x. text_lines choice frame.1 ++ x) more
      ∙ ap (λ t. text_lines choice t ++ text_lines choice rest) (sym text)
      ∙ sym (joined choice limit (take (nla_align frame.0) c) rest small)
      ∙ ap (λ t. text_lines choice (t ++ rest)) text

  ended : (c : List ℕ) (kind : FaultKind) → first_frame link_body limit c ≡ Err kind → (offset : ℕ) → lines_of_messages (plain choice) (messages_at false limit offset c) ≡ []
  unfolding lines_of_messages
  ended [] kind h offset = ap (lines_of_messages (plain choice)) (messages.none false limit offset)
  ended (b ∷ c) kind h offset =
      let m = at_fault false limit offset (b ∷ c) kind (omega arith) h in
      ap (lines_of_messages (plain choice)) m.1 ∙ stopped offset (frame_of (b ∷ c)) kind (is_of_body kind)

  plain_at : (c : List ℕ) (offset : ℕ) → lines_of_messages (plain choice) (messages_at false limit offset c) ≡ text_lines choice (texts link_body limit c)
  plain_at =
      by_frames link_body limit (λ c. (offset : ℕ) → lines_of_messages (plain choice) (messages_at false limit offset c) ≡ text_lines choice (texts link_body limit c))
      (λ c frame h more offset.
      let rest = drop (nla_align frame.0) c in
      ap (lines_of_messages (plain choice)) (messages.accepted false limit offset c frame h)
      ∙ plain_next offset c frame h (messages_at false limit (offset + nla_align frame.0) rest) (texts link_body limit rest) (more (offset + nla_align frame.0))
      ∙ sym (ap (text_lines choice) (texts_step link_body limit c frame h)))
      (λ c kind h offset. ended c kind h offset ∙ sym (ap (text_lines choice) (texts_stop link_body limit c kind h) ∙ no_lines choice joined))

pub lines_of_messages_are_of_texts : CapturesUnfoldByFrames link_body → MessagesUnfold → LinesAreJoined → NothingOmittedKeepsAll → LinesOfMessagesAreOfTexts
lines_of_messages_are_of_texts go messages joined all choice limit c small = plain_at choice go messages joined all limit small c 0
