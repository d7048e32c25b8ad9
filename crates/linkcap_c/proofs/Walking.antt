-- What is written of a piece, message by message, whatever came before the piece.
use Rattle.std.proofs.Common.{◌≡◌, ◌≢◌, ℕ, ◌+◌, ◌-◌, ◌%◌, ◌<◌, ◌≤◌, ◌⊎◌, inl, inr, Bool, true, false, cond, min, None, Some, Ok, Err, List, [], ◌∷◌, ◌++◌, length, take, drop, refl, sym, ap, subst, ◌∙◌, arith, append_assoc, append-nil}
use Rattle.std.specs.Prelude.{◌&&◌, Option, Result, IfOk, IfErr}
use Rattle.std.proofs.lemmas.List.{length-take, length-drop, length-append, take-append-drop, take_at, drop_all}
use Rattle.std.proofs.Math.Seq.{take-add}
use Rattle.std.proofs.lemmas.Bool.{cases_lt}
use borrow.Rule.Slice.PartMut.{put_mid}
use Rattle.netlink_packet_core_grammar.specs.Attributes.{nla_align}
use Rattle.netlink_packet_core_grammar.specs.Frames.{frame_length}
use Rattle.link_capture_grammar.specs.Body.{link_body}
use Rattle.link_capture_grammar.specs.declared.fault.FaultKind.{FaultKind}
use Rattle.link_capture_grammar.specs.declared.fault.FaultKind.TheVariants.{Cut}
use Rattle.link_capture_grammar.specs.Captures.{first_frame, first_fault, texts, shifted}
use Rattle.link_capture_grammar.specs.Laws.{CapturesUnfoldByFrames, FramesAreIndependent}
use Rattle.link_lines.specs.MessageLines.{message_lines, lines_of_messages}
use Rattle.link_lines.specs.Messages.{Message, Message.Accepted, Message.Faulty, frame_of, is_of_body, last_fault}
use Rattle.link_lines.specs.Outcomes.{IsAccepted, IsToBeShown}
use Rattle.link_lines.specs.Pieces.{PiecesAreJoined, first_message, goes_past}
use Rattle.link_lines.specs.declared.messages.ShownMessage.TheVariants as Outcome
use Rattle.linkcap_c.specs.Forms.{Form, Form.Text, Form.Lines, keeps_going, stop_at, written_at}
use Rattle.linkcap_c.specs.Pieces.{Continues, HasFault, IsBefore, IsEnded, IsFaulty, IsLegalTo, IsPushed, IsWrittenTo, LacksPadding, Stops, StopsAfter, StopsWhole, WritesMessage, used_of}
use Rattle.linkcap_c.specs.declared.pieces.Stop.{Stop}
use Rattle.linkcap_c.specs.declared.pieces.Stop.TheVariants as Why
use Rattle.linkcap_c.specs.declared.pieces.Written.{Written}
use Rattle.linkcap_c.proofs.Forms.{IsForm, cut_nil, length_front, shifted_none, unshifted, written_behind}

-- ---- what is written of some messages

pub written_none : (f : Form) (limit offset : ℕ) (last : Bool) (c : List ℕ) → IsForm f limit → IsWrittenTo f limit offset last c 0 0
written_none f limit offset last c form = record {
  inside = omega arith;
  padded = inl refl;
  goes_on = form.no_stop offset;
  written = sym (ap length (form.none offset));
}

first_taken : (m : ℕ) (d : List ℕ) → take (length (take m d)) d ≡ take m d
first_taken m d = ap (take (length (take m d))) (sym (take-append-drop m d)) ∙ take_at (take m d) (drop m d) (length (take m d)) refl

with_message : (used read : ℕ) (c : List ℕ) → read ≡ length (first_message (drop used c)) → take (used + read) c ≡ take used c ++ first_message (drop used c)
with_message used read c e =
    let d = drop used c in
    take-add used read c ∙ ap (λ x. take used c ++ x) (ap (λ k. take k d) e ∙ first_taken (nla_align (frame_length d)) d)

padded_more : (last : Bool) (used read size n left : ℕ) → used % 4 ≡ 0 → left ≡ size - used → used ≤ size → read ≡ min (nla_align n) left → (last ≡ false → read ≡ nla_align n) → ((used + read) % 4 ≡ 0) ⊎ ((last ≡ true) × (used + read ≡ size))
padded_more false used read size n left s l i e p = inl (let z = p refl in omega (arith, z, s))
padded_more true used read size n left s l i e p =
    elim (cases_lt left (nla_align n)) [
      | inl h ↦ inr (refl, omega (arith, h, e, l, i))
      | inr h ↦ inl (omega (arith, h, e, s))
    ]

module _ (f : Form) (limit offset : ℕ) (form : IsForm f limit) (last : Bool) (c : List ℕ) (used size : ℕ) (u : IsWrittenTo f limit offset last c used size) where
  starts_at : used < length c → used % 4 ≡ 0
  starts_at l = elim u.padded [ inl h ↦ h | inr h ↦ omega (arith, h.1, l) ]

  start_of : used < length c → length (take used c) % 4 ≡ 0
  start_of l = ap (λ n. n % 4) (length_front used c u.inside) ∙ starts_at l

  here : offset + length (take used c) ≡ offset + used
  here = ap (λ n. offset + n) (length_front used c u.inside)

  one_written : (read : ℕ) → used < length c → read ≡ length (first_message (drop used c)) → written_at f limit offset (take (used + read) c) ≡ written_at f limit offset (take used c) ++ written_at f limit (offset + used) (first_message (drop used c))
  one_written read l e =
      let first = first_message (drop used c) in
      ap (written_at f limit offset) (with_message used read c e)
      ∙ form.joined offset (take used c) first u.goes_on (start_of l)
      ∙ ap (λ n. written_at f limit offset (take used c) ++ written_at f limit n first) here

  written_one : (read wrote : ℕ) → used < length c → read ≡ length (first_message (drop used c)) → stop_at f limit (offset + used) (first_message (drop used c)) ≡ None → wrote ≡ length (written_at f limit (offset + used) (first_message (drop used c))) → (last ≡ false → read ≡ nla_align (frame_length (drop used c))) → IsWrittenTo f limit offset last c (used + read) (size + wrote)
  written_one read wrote l e goes w p =
      let d = drop used c in
      let first = first_message d in
      let left = length-drop used c in
      let e' : read ≡ min (nla_align (frame_length d)) (length d) = e ∙ length-take (nla_align (frame_length d)) d in
      record {
        inside = omega (arith, e', left, u.inside);
        padded = padded_more last used read (length c) (frame_length d) (length d) (starts_at l) left u.inside e' p;
        goes_on =
            ap (stop_at f limit offset) (with_message used read c e)
            ∙ form.stops offset (take used c) first u.goes_on (start_of l)
            ∙ ap (λ n. stop_at f limit n first) here ∙ goes;
        written =
            ap (λ n. n + wrote) u.written ∙ ap (λ n. length (written_at f limit offset (take used c)) + n) w
            ∙ sym (length-append (written_at f limit offset (take used c)) (written_at f limit (offset + used) first))
            ∙ ap length (sym (one_written read l e));
      }

-- ---- legal bytes: their texts are written

as_texts : (limit offset : ℕ) (last : Bool) (c : List ℕ) (at : ℕ) → IsLegalTo limit last c at → IsWrittenTo Text limit offset last c at (length (texts link_body limit (take at c)))
as_texts limit offset last c at l = record { inside = l.inside; padded = l.padded; goes_on = ap (shifted offset) l.legal; written = refl }

pub legal_none : (limit : ℕ) (last : Bool) (c : List ℕ) → IsForm Text limit → IsLegalTo limit last c 0
legal_none limit last c form = record { inside = omega arith; legal = shifted_none 0 (first_fault link_body limit []) (form.no_stop 0); padded = inl refl }

accepted_text : CapturesUnfoldByFrames link_body → FramesAreIndependent link_body → (limit : ℕ) (c : List ℕ) (frame : ℕ × List ℕ) → first_frame link_body limit c ≡ Ok frame → (first_fault link_body limit (first_message c) ≡ None) × (texts link_body limit (first_message c) ≡ frame.1)
accepted_text go frames limit c frame h =
    let e : first_message c ≡ take (nla_align frame.0) c = ap (λ n. take (nla_align n) c) (frames.accepted limit c frame h).is in
    (ap (first_fault link_body limit) e ∙ go.one_legal limit c frame h, ap (texts link_body limit) e ∙ go.one_frame_text limit c frame h)

pub legal_one : CapturesUnfoldByFrames link_body → FramesAreIndependent link_body → (limit : ℕ) → IsForm Text limit → (last : Bool) (c rest : List ℕ) (used read : ℕ) → IsLegalTo limit last c used → used < length c → rest ≡ drop used c → IsAccepted limit rest → read ≡ length (first_message rest) → (last ≡ false → read ≡ nla_align (frame_length rest)) → IsLegalTo limit last c (used + read)
legal_one go frames limit form last c rest used read l inside r accepted size padded =
    let first = accepted_text go frames limit (drop used c) accepted.0 (ap (first_frame link_body limit) (sym r) ∙ accepted.1) in
    let wrote = length (texts link_body limit (first_message (drop used c))) in
    let u = written_one Text limit 0 form last c used (length (texts link_body limit (take used c))) (as_texts limit 0 last c used l) read wrote inside (size ∙ ap (λ x. length (first_message x)) r) (ap (shifted (0 + used)) first.0) refl (λ f. padded f ∙ ap (λ x. nla_align (frame_length x)) r) in
    record { inside = u.inside; legal = shifted_none 0 (first_fault link_body limit (take (used + read) c)) u.goes_on; padded = u.padded }

-- ---- one message

-- The first message of c, at an offset of a capture, has this length and this fault, and this is written of it.
pub record IsFirst (f : Form) (limit offset : ℕ) (c text : List ℕ) (n : ℕ) (fault : Option FaultKind) : Type 0 where
  pub size : n ≡ frame_length c
  pub inside : n ≤ length c
  pub low : 16 ≤ n
  pub goes_on : stop_at f limit offset (first_message c) ≡ None
  pub written : written_at f limit offset (first_message c) ≡ text
  pub is_shown : IsToBeShown (keeps_going f) limit c
  pub has_fault : HasFault (keeps_going f) limit c fault

lines_of_one : (o : _) (m : Message) → lines_of_messages o (m ∷ []) ≡ message_lines o m
unfolding lines_of_messages
lines_of_one o m = append-nil (message_lines o m)

-- What was appended to a buffer that was empty.
in_empty : (slice items old text : List ℕ) → slice ≡ items → old ≡ [] → items ≡ old ++ text → slice ≡ text
in_empty slice items old text s o t = s ∙ t ∙ ap (λ x. x ++ text) o

module _ (go : CapturesUnfoldByFrames link_body) (frames : FramesAreIndependent link_body) (pieces : PiecesAreJoined) (limit offset : ℕ) (c slice items old : List ℕ) (same : slice ≡ items) (empty : old ≡ []) where
  pub accepted_first : (f : Form) (n : ℕ) → IsPushed f limit offset c old items (Outcome.Accepted n) → IsFirst f limit offset c slice n None
  accepted_first Text n pushed =
      let accepted = frames.accepted limit c (n, pushed.0) pushed.1 in
      let first = accepted_text go frames limit c (n, pushed.0) pushed.1 in
      record {
        size = sym accepted.is;
        inside = accepted.whole;
        low = accepted.low;
        goes_on = ap (shifted offset) first.0;
        written = first.1 ∙ sym (in_empty slice items old pushed.0 same empty pushed.2);
        is_shown = inl ((n, pushed.0), pushed.1);
        has_fault = ((n, pushed.0), pushed.1);
      }
  accepted_first (Lines o) n pushed =
      let text = pushed.0 in
      let accepted = frames.accepted limit c (n, text) pushed.1 in
      let only = pieces.accepted o.keep_going limit offset c (n, text) pushed.1 in
      record {
        size = sym accepted.is;
        inside = accepted.whole;
        low = accepted.low;
        goes_on = ap last_fault only;
        written = ap (lines_of_messages o) only ∙ lines_of_one o (Accepted offset text) ∙ sym (in_empty slice items old (message_lines o (Accepted offset text)) same empty pushed.2);
        is_shown = inl ((n, text), pushed.1);
        has_fault = ((n, text), pushed.1);
      }

  pub faulty_first : (f : Form) (kind : FaultKind) (n : ℕ) → IsPushed f limit offset c old items (Outcome.Faulty kind n) → IsFirst f limit offset c slice n (Some kind)
  faulty_first Text kind n pushed = absurd pushed
  faulty_first (Lines o) kind n pushed =
      let past : goes_past o.keep_going kind ≡ true = ap (λ b. b && o.keep_going) pushed.2 ∙ pushed.0 in
      let frame = pushed.3 in
      let only = pieces.faulty o.keep_going limit offset c kind pushed.1 past in
      record {
        size = pushed.4;
        inside = omega (arith, pushed.4, frame.within);
        low = omega (arith, pushed.4, frame.covers_header);
        goes_on = ap last_fault only;
        written = ap (lines_of_messages o) only ∙ lines_of_one o (Faulty offset kind (frame_of c)) ∙ sym (in_empty slice items old (message_lines o (Faulty offset kind (frame_of c))) same empty pushed.5);
        is_shown = inr (pushed.0, (kind, pushed.1, pushed.2));
        has_fault = (pushed.1, past);
      }

never_past : (b : Bool) → (b && false) ≡ false
never_past true = refl
never_past false = refl

-- Writing stops at the first message.
pub stopped_first : (f : Form) (limit offset : ℕ) (c old new : List ℕ) (kind : FaultKind) → IsPushed f limit offset c old new (Outcome.Stopped kind) → (first_frame link_body limit c ≡ Err kind) × (goes_past (keeps_going f) kind ≡ false)
stopped_first Text limit offset c old new kind pushed = (pushed.0, never_past (is_of_body kind))
stopped_first (Lines o) limit offset c old new kind pushed = (pushed.0.0, stays (is_of_body kind) (λ e. (pushed.0.1 e).0))
  where
    stays : (b : Bool) → (b ≡ true → o.keep_going ≡ false) → (b && o.keep_going) ≡ false
    stays true h = h refl
    stays false h = refl

-- The first message has no fault.
pub accepted_without : (k : Bool) (limit : ℕ) (c : List ℕ) (f : Option FaultKind) → ((kind : FaultKind) → f ≡ Some kind → ⊥) → HasFault k limit c f → IsAccepted limit c
accepted_without k limit c None h a = a
accepted_without k limit c (Some kind) h a = absurd (h kind refl)

ended_by : (k : Bool) (limit : ℕ) (last : Bool) (c : List ℕ) → last ≡ false → LacksPadding k limit c → IsEnded k limit last c
ended_by k limit true c e h = absurd cc
ended_by k limit false c e h = inr h

module _ (f : Form) (limit offset : ℕ) (last : Bool) (c text old new : List ℕ) (n : ℕ) (fault : Option FaultKind) (first : IsFirst f limit offset c text n fault) where
  pub writes_first : (r : Result Written Stop) → IfOk r (λ w. (w.fault ≡ fault) × (w.read ≡ min (nla_align n) (length c)) × (w.wrote ≡ length text) × (new ≡ text ++ drop w.wrote old)) → IfOk r (λ w. last ≡ false → nla_align n ≤ length c) → IfOk r (λ w. WritesMessage f limit offset last c old new w)
  writes_first (Ok w) put padded =
      let read : w.read ≡ min (nla_align (frame_length c)) (length c) = put.1 ∙ ap (λ m. min (nla_align m) (length c)) first.size in
      let size : nla_align n ≡ nla_align (frame_length c) = ap nla_align first.size in
      record {
        goes_on = first.goes_on;
        read = read ∙ sym (length-take (nla_align (frame_length c)) c);
        padded = λ f. let p = padded f in omega (arith, p, read, size);
        wrote = put.2 ∙ ap length (sym first.written);
        held = put.3 ∙ ap (λ x. x ++ drop w.wrote old) (sym first.written);
        fault = subst (HasFault (keeps_going f) limit c) (sym put.0) first.has_fault;
      }
  writes_first (Err stop) put padded = tt

  stops_as : (stop : Stop) → ((stop ≡ Why.Ended) × (last ≡ false) × (length c < nla_align n)) ⊎ ((stop ≡ Why.Room (length text)) × (length old < length text)) → Stops f limit offset last c (length old) stop
  stops_as stop (inl e) =
      let size : nla_align n ≡ nla_align (frame_length c) = ap nla_align first.size in
      let lacks : length c < nla_align (frame_length c) = omega (arith, e.2, size) in
      subst (Stops f limit offset last c (length old)) (sym e.0) (ended_by (keeps_going f) limit last c e.1 (first.is_shown, lacks))
  stops_as stop (inr e) =
      subst (Stops f limit offset last c (length old)) (sym e.0) (e.1, (first.is_shown, ap length (sym first.written)))

  pub stops_first : (r : Result Written Stop) → IfErr r (λ stop. ((stop ≡ Why.Ended) × (last ≡ false) × (length c < nla_align n)) ⊎ ((stop ≡ Why.Room (length text)) × (length old < length text))) → IfErr r (λ stop. Stops f limit offset last c (length old) stop)
  stops_first (Ok w) put = tt
  stops_first (Err stop) put = stops_as stop put

-- ---- messages, one after the other

-- How far a walk over the messages of c has come: what is written of them is at the start of the buffer.
pub record Walked (f : Form) (limit offset : ℕ) (last : Bool) (c init out : List ℕ) (used size : ℕ) : Type 0 where
  pub done : IsWrittenTo f limit offset last c used size
  pub room : size ≤ length init
  pub length : length out ≡ length init
  pub held : out ≡ written_at f limit offset (take used c) ++ drop size init

pub walked_none : (f : Form) (limit offset : ℕ) (last : Bool) (c init : List ℕ) → IsForm f limit → Walked f limit offset last c init init 0 0
walked_none f limit offset last c init form = record {
  done = written_none f limit offset last c form;
  room = omega arith;
  length = refl;
  held = ap (λ x. x ++ init) (sym (form.none offset));
}

module _ (f : Form) (limit offset : ℕ) (form : IsForm f limit) (last : Bool) (c init out : List ℕ) (used size : ℕ) (h : Walked f limit offset last c init out used size) where
  walked_next : (new : List ℕ) (w : Written) → used < length c → WritesMessage f limit (offset + used) last (drop used c) (drop size out) new w → w.wrote ≤ length (drop size out) → Walked f limit offset last c init (put_mid size (length out - size) out new) (used + w.read) (size + w.wrote)
  walked_next new w l m fits =
      let u = written_one f limit offset form last c used size h.done w.read w.wrote l m.read m.goes_on m.wrote m.padded in
      let front = written_at f limit offset (take used c) in
      let more = written_at f limit (offset + used) (first_message (drop used c)) in
      let held = written_behind size w.wrote front more init out new (sym h.done.written) h.held m.held
      ∙ ap (λ x. x ++ drop (size + w.wrote) init) (sym (one_written f limit offset form last c used size h.done w.read l m.read)) in
      let room : size + w.wrote ≤ length init = omega (arith, fits, length-drop size out, h.length, h.room) in
      record {
        done = u;
        room = room;
        length = ap length held ∙ length-append (written_at f limit offset (take (used + w.read) c)) (drop (size + w.wrote) init) ∙ omega (arith, u.written, length-drop (size + w.wrote) init, room);
        held = held;
      }

  pub walked_one : (at : ℕ) (rest space new : List ℕ) (w : Written) → used < length c → at ≡ offset + used → rest ≡ drop used c → space ≡ drop size out → WritesMessage f limit at last rest space new w → w.wrote ≤ length space → Walked f limit offset last c init (put_mid size (length out - size) out new) (used + w.read) (size + w.wrote)
  walked_one at rest space new w l a r s m fits =
      walked_next new w l
      (subst (λ n. WritesMessage f limit n last (drop used c) (drop size out) new w) a
      (subst (λ x. WritesMessage f limit at last x (drop size out) new w) r
      (subst (λ x. WritesMessage f limit at last rest x new w) s m)))
      (subst (λ x. w.wrote ≤ length x) s fits)

-- ---- why writing stopped

-- nothing is left
pub ended : (k : Bool) (limit : ℕ) (last : Bool) (c : List ℕ) (used : ℕ) → length c ≤ used → IsEnded k limit last (drop used c)
ended k limit true c used h = drop_all used c h
ended k limit false c used h = inl (ap (first_frame link_body limit) (drop_all used c h) ∙ cut_nil limit)

stops_at : (f : Form) (limit offset : ℕ) (last : Bool) (c : List ℕ) (used room : ℕ) (stop : Stop) → Stops f limit (offset + used) last (drop used c) room stop → StopsAfter f limit offset last c used used room stop
stops_at f limit offset last c used room Why.Ended h = (refl, h)
stops_at f limit offset last c used room (Why.Fault kind) h =
    (h.0, sym (ap (λ b. cond b (used + length (first_message (drop used c))) used) h.1))
stops_at f limit offset last c used room (Why.Room wanted) h = (refl, h)
stops_at f limit offset last c used room Why.Memory h = (refl, h)

pub stops_before : (f : Form) (limit offset : ℕ) (last : Bool) (c rest : List ℕ) (used at room free : ℕ) (stop : Stop) → at ≡ offset + used → rest ≡ drop used c → room ≡ free → Stops f limit at last rest room stop → StopsAfter f limit offset last c used used free stop
stops_before f limit offset last c rest used at room free stop a r e h =
    stops_at f limit offset last c used free stop
    (subst (λ n. Stops f limit (offset + used) last (drop used c) n stop) e
    (subst (λ n. Stops f limit n last (drop used c) room stop) a
    (subst (λ x. Stops f limit at last x room stop) r h)))

past_is_of_body : (k : Bool) (kind : FaultKind) → goes_past k kind ≡ true → kind ≢ Cut
past_is_of_body k kind p e = let bad : false ≡ true = sym (ap (goes_past k) e) ∙ p in cc

-- the message that was written has the fault
pub stops_behind : (f : Form) (limit offset : ℕ) (last : Bool) (c rest : List ℕ) (used read room : ℕ) (fault : Option FaultKind) (kind : FaultKind) → fault ≡ Some kind → used < length c → rest ≡ drop used c → HasFault (keeps_going f) limit rest fault → read ≡ length (first_message rest) → StopsAfter f limit offset last c (used + read) used room (Why.Fault kind)
stops_behind f limit offset last c rest used read room fault kind is l r has e =
    let h = subst (HasFault (keeps_going f) limit rest) is has in (
      record { more = omega (arith, l, length-drop used c); is = ap (first_frame link_body limit) (sym r) ∙ h.0; for_good = λ _. past_is_of_body (keeps_going f) kind h.1 },
      ap (λ n. used + n) (e ∙ ap (λ x. length (first_message x)) r) ∙ sym (ap (λ b. cond b (used + length (first_message (drop used c))) used) h.1),
    )

-- ---- the whole capture

-- the message that has a fault, whatever follows
there : FramesAreIndependent link_body → (limit : ℕ) (last : Bool) (rest more : List ℕ) (kind : FaultKind) → (last ≡ true → more ≡ []) → IsFaulty limit last rest kind → first_frame link_body limit (rest ++ more) ≡ Err kind
there frames limit true rest more kind m bad = ap (first_frame link_body limit) (ap (λ x. rest ++ x) (m refl) ∙ append-nil rest) ∙ bad.is
there frames limit false rest more kind m bad =
    frames.unchanged_by_more limit rest more (λ e. bad.for_good refl (let z : Err kind ≡ Err Cut = sym bad.is ∙ e in cc)) ∙ bad.is

module _ (f : Form) (limit offset : ℕ) (form : IsForm f limit) (last : Bool) (c : List ℕ) (used size : ℕ) (u : IsWrittenTo f limit offset last c used size) (before : List ℕ) (b : IsBefore f limit offset before) where
  at_piece : 0 + length before ≡ offset
  at_piece = omega (arith, b.size)

  padded_before : length before % 4 ≡ 0
  padded_before = ap (λ n. n % 4) b.size ∙ b.padded

  -- what follows the bytes before the piece
  written_after : (d : List ℕ) → written_at f limit 0 (before ++ d) ≡ written_at f limit 0 before ++ written_at f limit offset d
  written_after d = form.joined 0 before d b.goes_on padded_before ∙ ap (λ n. written_at f limit 0 before ++ written_at f limit n d) at_piece

  stop_after : (d : List ℕ) → stop_at f limit 0 (before ++ d) ≡ stop_at f limit offset d
  stop_after d = form.stops 0 before d b.goes_on padded_before ∙ ap (λ n. stop_at f limit n d) at_piece

  pub continues : Continues f limit offset last (take used c) before
  continues =
      let goes = stop_after (take used c) ∙ u.goes_on in
      record {
        goes_on = goes;
        written = written_after (take used c);
        next = λ e. record {
          size = length-append before (take used c) ∙ ap (λ n. n + length (take used c)) b.size;
          padded = padded e u.padded;
          goes_on = goes;
        };
      }
    where
      padded : last ≡ false → (used % 4 ≡ 0) ⊎ ((last ≡ true) × (used ≡ length c)) → (offset + length (take used c)) % 4 ≡ 0
      padded e (inl h) = omega (arith, length_front used c u.inside, h, b.padded)
      padded e (inr h) = absurd (let z : true ≡ false = sym h.0 ∙ e in cc)

  pub stops_whole : FramesAreIndependent link_body → (more : List ℕ) (kind : FaultKind) → (last ≡ true → more ≡ []) → IsFaulty limit last (drop used c) kind → goes_past (keeps_going f) kind ≡ false → StopsWhole f limit offset kind used c before more
  stops_whole frames more kind m bad stops =
      let d = drop used c ++ more in
      let l : used < length c = omega (arith, bad.more, length-drop used c) in
      let start = start_of f limit offset form last c used size u l in
      let here' = here f limit offset form last c used size u in
      let split : c ++ more ≡ take used c ++ d = ap (λ x. x ++ more) (sym (take-append-drop used c)) ∙ append_assoc (take used c) (drop used c) more in
      let some : 0 < length d = omega (arith, bad.more, length-append (drop used c) more) in
      let end = form.stopped (offset + used) d kind some (there frames limit last (drop used c) more kind m bad) stops in
      record {
        fault = stop_after (c ++ more) ∙ ap (stop_at f limit offset) split
            ∙ form.stops offset (take used c) d u.goes_on start ∙ ap (λ n. stop_at f limit n d) here' ∙ end.0;
        written = written_after (c ++ more) ∙ ap (λ x. written_at f limit 0 before ++ x) (ap (written_at f limit offset) split
            ∙ form.joined offset (take used c) d u.goes_on start
            ∙ ap (λ n. written_at f limit offset (take used c) ++ written_at f limit n d) here'
            ∙ ap (λ x. written_at f limit offset (take used c) ++ x) end.1
            ∙ append-nil (written_at f limit offset (take used c)));
      }

-- the first fault
pub first_of_whole : FramesAreIndependent link_body → (limit offset : ℕ) → IsForm Text limit → (last : Bool) (c : List ℕ) (at : ℕ) (before more : List ℕ) (kind : FaultKind) → IsLegalTo limit last c at → IsBefore Text limit offset before → (last ≡ true → more ≡ []) → IsFaulty limit last (drop at c) kind → first_fault link_body limit (before ++ (c ++ more)) ≡ Some (record { kind = kind; offset = offset + at })
first_of_whole frames limit offset form last c at before more kind l b m bad =
    unshifted (first_fault link_body limit (before ++ (c ++ more))) (Some (record { kind = kind; offset = offset + at }))
    (stops_whole Text limit offset form last c at (length (texts link_body limit (take at c))) (as_texts limit offset last c at l) before b frames more kind m bad (never_past (is_of_body kind))).fault

-- ---- results

is_of_body_by : (of_body k : Bool) → (of_body && k) ≡ true → of_body ≡ true
is_of_body_by true k e = refl
is_of_body_by false k e = absurd cc

-- A message that isn't used has a fault after which nothing is written.
pub stops_there : PiecesAreJoined → (k : Bool) (limit : ℕ) (last : Bool) (c : List ℕ) (used at : ℕ) (kind : FaultKind) → IsFaulty limit last (drop at c) kind → used ≡ used_of k kind at c → at ≡ used → goes_past k kind ≡ false
stops_there pieces k limit last c used at kind bad e s = by (goes_past k kind) refl e
  where
    by : (past : Bool) → goes_past k kind ≡ past → used ≡ cond past (at + length (first_message (drop at c))) at → past ≡ false
    by true p r = absurd (omega (arith, pieces.header limit (drop at c) kind bad.is (is_of_body_by (is_of_body kind) k p), r, s))
    by false p r = refl
