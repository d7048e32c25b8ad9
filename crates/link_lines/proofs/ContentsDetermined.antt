-- The lines of messages, of which all is shown, determine their contents.
use Rattle.std.proofs.Common.{◌≡◌, ℕ, ◌+◌, ◌^◌, ◌<◌, true, List, [], ◌∷◌, ◌++◌, length, take, drop, Err, refl, sym, ap, subst, ◌∙◌, append_assoc, arith}
use Rattle.std.specs.Prelude.{codes}
use Rattle.std.proofs.lemmas.List.{append_cancel_right}
use Rattle.link_message_grammar.specs.Body.{link_body}
use Rattle.link_capture_grammar.specs.Captures.{Judged, first_frame}
use Rattle.link_capture_grammar.specs.Laws.{CapturesUnfoldByFrames, FramesAreIndependent}
use Rattle.link_capture_grammar.specs.declared.fault.FaultKind.{FaultKind}
use Rattle.link_lines.specs.MessageLaws.{NothingOmittedKeepsAll}
use Rattle.link_lines_texts.specs.Captures.{everything, text_lines}
use Rattle.link_lines_texts.specs.Determination.{AcceptedFramesAreCanonical, FramesAreDetermined, StartsFrame}
use Rattle.link_lines_texts.specs.Frames.{frame_lines}
use Rattle.link_lines_parts.specs.BytesLines.{bytes_line}
use Rattle.link_lines_texts.specs.Laws.{LinesDetermineTexts}
use Rattle.link_lines_texts.proofs.CapturesDetermined.{frame_has_lines}
use Rattle.link_lines.specs.MessageLaws.{Content, Content.Text, Content.Frame, LinesDetermineContents, MessagesUnfold, all_messages, contents}
use Rattle.link_lines.specs.MessageLines.{faulty_lines, message_lines, refusal_line}
use Rattle.link_lines.specs.Messages.{Message, Message.Accepted, Message.Faulty, Message.Last}
use Rattle.link_lines.proofs.AllLines.{all_are_whole, all_lines}
use Rattle.link_lines.proofs.FaultyDetermined.{accepted_differs, faulty_determined}
use Rattle.link_lines.proofs.MessagesDetermined.{DetermineKeys, IsShown, IsText, keys_determined}

-- ---- one message

-- The lines of a message, of which all is shown.
abbrev pub own_lines : Message → List ℕ
own_lines (Accepted offset text) = text_lines everything text
own_lines (Faulty offset kind frame) = faulty_lines true kind frame
own_lines (Last offset kind frame) = []

-- The content of a message that has one.
abbrev pub content : Message → Content
content (Accepted offset text) = Text text
content (Faulty offset kind frame) = Frame frame
content (Last offset kind frame) = Frame []

lines_of : NothingOmittedKeepsAll → (m : Message) → message_lines all_messages m ≡ own_lines m
lines_of all (Accepted offset text) = all_lines all all_messages all_are_whole.0 refl refl offset (text_lines everything text)
lines_of all (Faulty offset kind frame) = all_lines all all_messages all_are_whole.0 refl refl offset (faulty_lines true kind frame)
lines_of all (Last offset kind frame) = refl

first_content : (limit : ℕ) (m : Message) (more : List Message) → IsShown limit m → contents (m ∷ more) ≡ content m ∷ contents more
first_content limit (Accepted offset text) more h = refl
first_content limit (Faulty offset kind frame) more h = refl
first_content limit (Last offset kind frame) more h = absurd h

-- What follows the lines of the header of a message with a fault of its body.
faulty_joined : (kind : FaultKind) (f s : List ℕ) → (own : List ℕ) × (faulty_lines true kind f ++ s ≡ frame_lines true (take 16 f) ++ own)
unfolding faulty_lines
faulty_joined kind f s = (_, append_assoc (frame_lines true (take 16 f)) (refusal_line kind f ++ bytes_line (codes "body") (drop 16 f)) s)

-- A message has at least one line.
some_lines : (limit : ℕ) (m : Message) (s : List ℕ) → IsShown limit m → own_lines m ++ s ≡ [] → ⊥
some_lines limit (Accepted offset text) s h e = frame_has_lines true h.own s (sym (ap (λ z. z ++ s) h.lines) ∙ e)
some_lines limit (Faulty offset kind frame) s h e = let j = faulty_joined kind frame s in frame_has_lines true (take 16 frame) j.0 (sym j.1 ∙ e)
some_lines limit (Last offset kind frame) s h e = h

-- A message with this content has these lines.
pub same_lines : (limit : ℕ) (m n : Message) → IsShown limit m → IsShown limit n → content m ≡ content n → own_lines m ≡ own_lines n
same_lines limit (Accepted x p) (Accepted y q) h i e = let same : p ≡ q = cc in ap (λ z. text_lines everything z) same
same_lines limit (Faulty x k f) (Faulty y j g) h i e =
    let same : f ≡ g = cc in
    let fault : ◌≡◌ {A = Judged} (Err k) (Err j) = sym h.judged ∙ ap (first_frame link_body limit) same ∙ i.judged in
    let kind : k ≡ j = cc in
    ap (λ z. faulty_lines true k z) same ∙ ap (λ z. faulty_lines true z g) kind
same_lines limit (Accepted x p) (Faulty y j g) h i e = absurd cc
same_lines limit (Faulty x k f) (Accepted y q) h i e = absurd cc
same_lines limit (Last x k f) n h i e = absurd h
same_lines limit m (Last y j g) h i e = absurd i

module _ (determined : FramesAreDetermined) (limit : ℕ) where
  pub starts : (m : Message) (s : List ℕ) → IsShown limit m → StartsFrame (own_lines m ++ s)
  starts (Accepted offset text) s h = subst StartsFrame (sym (ap (λ z. z ++ s) h.lines)) (determined.starts true h.own s)
  starts (Faulty offset kind frame) s h = let j = faulty_joined kind frame s in subst StartsFrame (sym j.1) (determined.starts true (take 16 frame) j.0)
  starts (Last offset kind frame) s h = absurd h

  module _ (l : limit < 2 ^ 32) (text_law : LinesDetermineTexts) where
    texts_determined : (p q s t : List ℕ) → IsText limit p → IsText limit q → StartsFrame s → StartsFrame t → text_lines everything p ++ s ≡ text_lines everything q ++ t → (p ≡ q) × (s ≡ t)
    texts_determined p q s t h i u v e =
        let alike = sym (ap (λ z. z ++ s) h.lines) ∙ e ∙ ap (λ z. z ++ t) i.lines in
        let rest = (determined.determined true h.own i.own s t h.canonical i.canonical (record { own = tt; request = λ two l. tt }) (record { own = tt; request = λ two l. tt }) u v alike).1 in
        let own : text_lines everything p ≡ text_lines everything q = append_cancel_right (text_lines everything p) (text_lines everything q) t (ap (λ z. text_lines everything p ++ z) (sym rest) ∙ e) in
        let lines = ap (λ z. text_lines everything z) h.is ∙ own ∙ sym (ap (λ z. text_lines everything z) i.is) in
        (sym h.is ∙ (text_law limit h.capture i.capture l h.bytes i.bytes).0 lines ∙ i.is, rest)

    -- The first of two messages' lines determine the content, and where they end.
    pub both_determined : (m n : Message) (s t : List ℕ) → IsShown limit m → IsShown limit n → StartsFrame s → StartsFrame t → own_lines m ++ s ≡ own_lines n ++ t → (content m ≡ content n) × (s ≡ t)
    both_determined (Accepted x p) (Accepted y q) s t h i u v e = let d = texts_determined p q s t h i u v e in (ap Text d.0, d.1)
    both_determined (Faulty x k f) (Faulty y j g) s t h i u v e = let d = faulty_determined limit k j f g s t h i u v e in (ap Frame d.0, d.1)
    both_determined (Accepted x p) (Faulty y j g) s t h i u v e = absurd (accepted_differs limit j g h.own t s i h.canonical u (sym e ∙ ap (λ z. z ++ s) h.lines))
    both_determined (Faulty x k f) (Accepted y q) s t h i u v e = absurd (accepted_differs limit k f i.own s t h i.canonical v (e ∙ ap (λ z. z ++ t) i.lines))
    both_determined (Last x k f) n s t h i u v e = absurd h
    both_determined m (Last y j g) s t h i u v e = absurd i

-- ---- messages

determine_contents : NothingOmittedKeepsAll → FramesAreDetermined → LinesDetermineTexts → (limit size : ℕ) → limit < 2 ^ 32 → DetermineKeys limit size all_messages content (λ ms. contents ms)
determine_contents all determined text_law limit size l = record {
  none = refl;
  last = λ x kind f. refl;
  first = first_content limit;
  some = λ m s h e. some_lines limit m s h (ap (λ z. z ++ s) (sym (lines_of all m)) ∙ e);
  starts = λ m s h. subst StartsFrame (ap (λ z. z ++ s) (sym (lines_of all m))) (starts determined limit m s h);
  same = λ m n h i e. lines_of all m ∙ same_lines limit m n h i e ∙ sym (lines_of all n);
  determined = λ m n s t h i low high u v e. both_determined determined limit l text_law m n s t h i u v
      (ap (λ z. z ++ s) (sym (lines_of all m)) ∙ e ∙ ap (λ z. z ++ t) (lines_of all n));
}

pub contents_determined : NothingOmittedKeepsAll → MessagesUnfold → FramesAreIndependent link_body → CapturesUnfoldByFrames link_body → AcceptedFramesAreCanonical → FramesAreDetermined → LinesDetermineTexts → LinesDetermineContents
contents_determined all steps frames go canonical determined text_law limit c d l p q =
    let size = length c + length d in
    keys_determined limit size steps frames go canonical l all_messages content (λ ms. contents ms)
    (determine_contents all determined text_law limit size l) c d p q (omega arith) (omega arith)
