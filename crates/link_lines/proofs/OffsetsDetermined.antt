-- The lines of messages, of which all is shown with their offsets, determine their contents and the offsets.
use Rattle.std.proofs.Common.{◌≡◌, ℕ, ◌^◌, ◌<◌, true, List, [], ◌∷◌, ◌++◌, take, refl, sym, ap, subst, ◌∙◌, append_assoc, append-nil, arith}
use Rattle.std.specs.Prelude.{codes}
use Rattle.std.proofs.lemmas.Fmt.{decimal_injective}
use Rattle.netlink_packet_core_grammar.specs.Numbers.{u16_at}
use Rattle.link_message_grammar.specs.Body.{link_body}
use Rattle.link_capture_grammar.specs.Laws.{CapturesUnfoldByFrames, FramesAreIndependent}
use Rattle.link_lines_values.specs.Flags.{named_flags}
use Rattle.link_lines_texts.specs.Captures.{everything, text_lines}
use Rattle.link_lines_texts.specs.Determination.{AcceptedFramesAreCanonical, FramesAreDetermined, StartsFrame}
use Rattle.link_lines_texts.specs.Frames.{flag_names, frame_lines, header_line, numbers_text, type_text}
use Rattle.link_lines_texts.specs.Laws.{LinesDetermineTexts}
use Rattle.link_lines_texts.specs.Links.{labelled}
use Rattle.link_lines.specs.MessageLaws.{Content, LinesDetermineOffsets, MessagesUnfold, NothingOmittedKeepsAll, all_messages_with_offsets, contents_with_offsets}
use Rattle.link_lines.specs.MessageLines.{faulty_lines, lines_with_offset, message_lines}
use Rattle.link_lines.specs.Messages.{Message, Message.Accepted, Message.Faulty, Message.Last}
use Rattle.link_lines.proofs.AllLines.{all_are_whole, all_selected}
use Rattle.link_lines.proofs.ContentsDetermined.{both_determined, content, own_lines, same_lines, starts}
use Rattle.link_lines.proofs.FirstLines.{HasFirstLine, first_line, located_first, offset_line, offset_line_determined, some_with_offset, starts_with_offset}
use Rattle.link_lines.proofs.MessagesDetermined.{DetermineKeys, IsShown, keys_determined, offset_of}

-- ---- the first line of a message

with_newline : (a b c more s : List ℕ) → HasFirstLine (((a ++ (b ++ (c ++ 10 ∷ []))) ++ more) ++ s)
with_newline a b c more s =
    let own = ap (λ z. a ++ z) (sym (append_assoc b c (10 ∷ []))) ∙ sym (append_assoc a (b ++ c) (10 ∷ [])) in
    let line = append_assoc (a ++ (b ++ c)) (10 ∷ []) more in
    let whole = append_assoc (a ++ (b ++ c)) (10 ∷ more) s in
    subst HasFirstLine (sym (ap (λ z. (z ++ more) ++ s) own ∙ ap (λ z. z ++ s) line ∙ whole)) (first_line (a ++ (b ++ c)) (more ++ s))

-- The lines of a frame have a first one.
frame_first : (f s : List ℕ) → HasFirstLine (frame_lines true f ++ s)
unfolding frame_lines header_line
frame_first f s =
    let name = type_text (u16_at 4 f) in
    let flags = labelled (codes " flags ") (named_flags (flag_names (u16_at 4 f)) (u16_at 6 f)) in
    with_newline name flags (numbers_text true f) _ s

-- ---- one message

-- The offset and the content of a message.
abbrev placed : Message → ℕ × Content
placed m = (offset_of m, content m)

both_placed : (m n : Message) → offset_of m ≡ offset_of n → content m ≡ content n → placed m ≡ placed n
both_placed m n e f = ap (λ z. (z, content m)) e ∙ ap (λ z. (offset_of n, z)) f

first_placed : (limit : ℕ) (m : Message) (more : List Message) → IsShown limit m → contents_with_offsets (m ∷ more) ≡ placed m ∷ contents_with_offsets more
first_placed limit (Accepted offset text) more h = refl
first_placed limit (Faulty offset kind frame) more h = refl
first_placed limit (Last offset kind frame) more h = absurd h

has_first : (limit : ℕ) (m : Message) → IsShown limit m → HasFirstLine (own_lines m)
unfolding faulty_lines
has_first limit (Accepted offset text) h = subst HasFirstLine (append-nil _ ∙ sym h.lines) (frame_first h.own [])
has_first limit (Faulty offset kind frame) h = frame_first (take 16 frame) _
has_first limit (Last offset kind frame) h = absurd h

module _ (all : NothingOmittedKeepsAll) (limit : ℕ) where
  lines_of : (m : Message) → IsShown limit m → message_lines all_messages_with_offsets m ≡ lines_with_offset true (offset_of m) (own_lines m)
  lines_of (Accepted offset text) h = ap (λ z. lines_with_offset true offset z) (all_selected all all_messages_with_offsets all_are_whole.1 (text_lines everything text))
  lines_of (Faulty offset kind frame) h = ap (λ z. lines_with_offset true offset z) (all_selected all all_messages_with_offsets all_are_whole.1 (faulty_lines true kind frame))
  lines_of (Last offset kind frame) h = absurd h

  -- The first line has the offset.
  first_of : (m : Message) (h : IsShown limit m) → let a = has_first limit m h in message_lines all_messages_with_offsets m ≡ offset_line (offset_of m) a.first a.rest
  first_of m h =
      let a = has_first limit m h in
      lines_of m h ∙ ap (λ z. lines_with_offset true (offset_of m) z) a.is ∙ located_first (offset_of m) a.first a.rest a.on_a_line

  some_lines : (m : Message) (s : List ℕ) → IsShown limit m → message_lines all_messages_with_offsets m ++ s ≡ [] → ⊥
  some_lines m s h e =
      let a = has_first limit m h in
      some_with_offset (offset_of m) a.first a.rest s (ap (λ z. z ++ s) (sym (first_of m h)) ∙ e)

  same_placed : (m n : Message) → IsShown limit m → IsShown limit n → placed m ≡ placed n → message_lines all_messages_with_offsets m ≡ message_lines all_messages_with_offsets n
  same_placed m n h i e =
      let offset : offset_of m ≡ offset_of n = ap (λ z. z.0) e in
      let same : content m ≡ content n = ap (λ z. z.1) e in
      lines_of m h ∙ ap (λ z. lines_with_offset true (offset_of m) z) (same_lines limit m n h i same) ∙ ap (λ z. lines_with_offset true z (own_lines n)) offset ∙ sym (lines_of n i)

  module _ (determined : FramesAreDetermined) where
    offset_starts : (m : Message) (s : List ℕ) → IsShown limit m → StartsFrame (message_lines all_messages_with_offsets m ++ s)
    offset_starts m s h =
        let a = has_first limit m h in
        let own : StartsFrame (own_lines m) = subst StartsFrame (append-nil (own_lines m)) (starts determined limit m [] h) in
        subst StartsFrame (ap (λ z. z ++ s) (sym (first_of m h))) (starts_with_offset (offset_of m) a.first a.rest s (subst StartsFrame a.is own))

    -- The lines without the offset, and what follows them.
    without_offset : (m : Message) (s : List ℕ) (h : IsShown limit m) → let a = has_first limit m h in own_lines m ++ s ≡ a.first ++ 10 ∷ (a.rest ++ s)
    without_offset m s h = let a = has_first limit m h in ap (λ z. z ++ s) a.is ∙ append_assoc a.first (10 ∷ a.rest) s

    placed_determined : limit < 2 ^ 32 → LinesDetermineTexts → (m n : Message) (s t : List ℕ) → IsShown limit m → IsShown limit n → offset_of m < 2 ^ 64 → offset_of n < 2 ^ 64 → StartsFrame s → StartsFrame t →
        message_lines all_messages_with_offsets m ++ s ≡ message_lines all_messages_with_offsets n ++ t → (placed m ≡ placed n) × (s ≡ t)
    placed_determined l text_law m n s t h i low high u v e =
        let a = has_first limit m h in
        let b = has_first limit n i in
        let lines = ap (λ z. z ++ s) (sym (first_of m h)) ∙ e ∙ ap (λ z. z ++ t) (first_of n i) in
        let same = offset_line_determined (offset_of m) (offset_of n) a.first b.first a.rest b.rest s t a.on_a_line b.on_a_line lines in
        let both = both_determined determined limit l text_law m n s t h i u v (without_offset m s h ∙ same.1 ∙ sym (without_offset n t i)) in
        (both_placed m n (decimal_injective (offset_of m) (offset_of n) low high same.0) both.0, both.1)

-- ---- messages

determine_placed : NothingOmittedKeepsAll → FramesAreDetermined → LinesDetermineTexts → (limit : ℕ) → limit < 2 ^ 32 → DetermineKeys limit (2 ^ 64) all_messages_with_offsets placed (λ ms. contents_with_offsets ms)
determine_placed all determined text_law limit l = record {
  none = refl;
  last = λ x kind f. refl;
  first = first_placed limit;
  some = some_lines all limit;
  starts = offset_starts all limit determined;
  same = same_placed all limit;
  determined = placed_determined all limit determined l text_law;
}

pub offsets_determined : NothingOmittedKeepsAll → MessagesUnfold → FramesAreIndependent link_body → CapturesUnfoldByFrames link_body → AcceptedFramesAreCanonical → FramesAreDetermined → LinesDetermineTexts → LinesDetermineOffsets
offsets_determined all steps frames go canonical determined text_law limit c d l p q i j =
    keys_determined limit (2 ^ 64) steps frames go canonical l all_messages_with_offsets placed (λ ms. contents_with_offsets ms)
    (determine_placed all determined text_law limit l) c d p q (omega (arith, i)) (omega (arith, j))
