-- What is written of a capture in pieces, for texts and for lines.
use Rattle.std.proofs.Common.{◌≡◌, ℕ, ◌+◌, ◌-◌, ◌%◌, ◌<◌, ◌≤◌, false, None, Some, Err, List, [], ◌++◌, length, take, drop, refl, sym, ap, ◌∙◌, arith, append_assoc, append-nil}
use Rattle.std.specs.Prelude.{Option}
use Rattle.std.proofs.lemmas.List.{length-take, length-drop, take_at, drop_at, drop-drop, drop_all}
use borrow.Rule.Slice.PartMut.{put_mid}
use Rattle.link_capture_grammar.specs.Body.{link_body}
use Rattle.link_capture_grammar.specs.declared.fault.CaptureFault.{CaptureFault}
use Rattle.link_capture_grammar.specs.declared.fault.FaultKind.{FaultKind}
use Rattle.link_capture_grammar.specs.declared.fault.FaultKind.TheVariants.{Cut}
use Rattle.link_capture_grammar.specs.Captures.{first_frame, first_fault, shifted}
use Rattle.link_capture_grammar.specs.Laws.{CapturesAreCounted, CapturesUnfoldByFrames, JoinedFaults, JoinedTexts}
use Rattle.link_lines.specs.MessageLaws.{MessagesUnfold}
use Rattle.link_lines.specs.MessageLines.{Selection, lines_of_messages}
use Rattle.link_lines.specs.Messages.{last_fault}
use Rattle.link_lines.specs.Pieces.{PiecesAreJoined, goes_past}
use Rattle.linkcap_c.specs.Forms.{Form, Form.Text, Form.Lines, keeps_going, stop_at, written_at}

-- ---- faults at offsets

pub shifted_none : (k : ℕ) (fault : Option CaptureFault) → shifted k fault ≡ None → fault ≡ None
shifted_none k None h = refl
shifted_none k (Some fault) h = absurd cc

shifted_zero : (fault : Option CaptureFault) → shifted 0 fault ≡ fault
shifted_zero None = refl
shifted_zero (Some fault) = let e : 0 + fault.offset ≡ fault.offset = omega arith in ap (λ n. Some (record { kind = fault.kind; offset = n })) e

shifted_twice : (k n : ℕ) (fault : Option CaptureFault) → shifted k (shifted n fault) ≡ shifted (k + n) fault
shifted_twice k n None = refl
shifted_twice k n (Some fault) = let e : k + (n + fault.offset) ≡ k + n + fault.offset = omega arith in ap (λ n. Some (record { kind = fault.kind; offset = n })) e

pub unshifted : (fault found : Option CaptureFault) → shifted 0 fault ≡ found → fault ≡ found
unshifted fault found h = sym (shifted_zero fault) ∙ h

-- ---- the laws of a form

-- What is written of bytes in which writing doesn't stop, whose size is a multiple of 4, is written independently of what
-- follows; nothing is written from a message on at which writing stops.
pub record IsForm (f : Form) (limit : ℕ) : Type 0 where
  pub none : (offset : ℕ) → written_at f limit offset [] ≡ []
  pub no_stop : (offset : ℕ) → stop_at f limit offset [] ≡ None
  pub joined : (offset : ℕ) (a b : List ℕ) → stop_at f limit offset a ≡ None → length a % 4 ≡ 0 →
      written_at f limit offset (a ++ b) ≡ written_at f limit offset a ++ written_at f limit (offset + length a) b
  pub stops : (offset : ℕ) (a b : List ℕ) → stop_at f limit offset a ≡ None → length a % 4 ≡ 0 →
      stop_at f limit offset (a ++ b) ≡ stop_at f limit (offset + length a) b
  pub stopped : (offset : ℕ) (c : List ℕ) (kind : FaultKind) → 0 < length c → first_frame link_body limit c ≡ Err kind →
      goes_past (keeps_going f) kind ≡ false →
      (stop_at f limit offset c ≡ Some (record { kind = kind; offset = offset })) × (written_at f limit offset c ≡ [])

pub text_is_form : CapturesAreCounted link_body → CapturesUnfoldByFrames link_body → JoinedFaults link_body → JoinedTexts link_body → (limit : ℕ) → IsForm Text limit
text_is_form counted go faults joins limit = record {
  none = λ offset. counted.no_text limit;
  no_stop = λ offset. ap (shifted offset) (counted.no_fault limit);
  joined = λ offset a b h p. joins limit a b (shifted_none offset (first_fault link_body limit a) h) p;
  stops = λ offset a b h p. ap (shifted offset) (faults limit a b (shifted_none offset (first_fault link_body limit a) h) p) ∙ shifted_twice offset (length a) (first_fault link_body limit b);
  stopped = λ offset c kind some e past.
      let at : offset + 0 ≡ offset = omega arith in
      (ap (shifted offset) (go.first_frame_fault limit c kind some e) ∙ ap (λ n. Some (record { kind = kind; offset = n })) at, go.first_frame_texts limit c kind e);
}

lines_are_form : MessagesUnfold → PiecesAreJoined → (limit : ℕ) (o : Selection) → IsForm (Lines o) limit
unfolding lines_of_messages
lines_are_form go pieces limit o = record {
  none = λ offset. ap (lines_of_messages o) (go.none o.keep_going limit offset);
  no_stop = λ offset. ap last_fault (go.none o.keep_going limit offset);
  joined = λ offset a b h p. pieces.lines o limit offset a b h p;
  stops = λ offset a b h p. pieces.last o.keep_going limit offset a b h p;
  stopped = λ offset c kind some e past.
      let end = pieces.stopped o.keep_going limit offset c kind some e past in
      (ap last_fault end.1, ap (lines_of_messages o) end.1);
}

pub is_form : CapturesAreCounted link_body → CapturesUnfoldByFrames link_body → JoinedFaults link_body → JoinedTexts link_body → MessagesUnfold → PiecesAreJoined → (limit : ℕ) (f : Form) → IsForm f limit
is_form counted go faults joins messages pieces limit Text = text_is_form counted go faults joins limit
is_form counted go faults joins messages pieces limit (Lines o) = lines_are_form messages pieces limit o

-- ---- buffers

pub cut_nil : (limit : ℕ) → first_frame link_body limit [] ≡ Err Cut
unfolding first_frame
cut_nil limit = refl

pub length_front : (used : ℕ) (c : List ℕ) → used ≤ length c → length (take used c) ≡ used
length_front used c l = length-take used c ∙ omega arith

-- A text that is written after others in a buffer.
pub written_behind : (at n : ℕ) (front text init out new : List ℕ) → length front ≡ at → out ≡ front ++ drop at init → new ≡ text ++ drop n (drop at out) → put_mid at (length out - at) out new ≡ (front ++ text) ++ drop (at + n) init
written_behind at n front text init out new e b w =
    let f : take at out ≡ front = rw b (take_at front (drop at init) at e) in
    let d : drop at out ≡ drop at init = rw b (drop_at front (drop at init) at e) in
    let z : drop (length out - at) (drop at out) ≡ [] = drop_all (length out - at) (drop at out) (omega (arith, length-drop at out)) in
    let x : drop n (drop at init) ≡ drop (at + n) init = drop-drop n at init in
    rw (f, z, w, d, x) (simp (append_assoc, append-nil))
