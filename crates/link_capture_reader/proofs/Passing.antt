-- What a walk has passed, and what remains.
use Rattle.std.proofs.Common.{◌≡◌, ℕ, ◌+◌, ◌%◌, ◌<◌, ◌≤◌, inl, inr, Option, None, Some, Ok, Err, List, [], ◌++◌, length, take, drop, sym, ap, subst, ◌∙◌, refl, arith, append_assoc}
use Rattle.std.proofs.lemmas.List.{length-take, length-drop, append-nil, drop_at, drop-drop, take_all, take-append-drop}
use Rattle.std.proofs.Math.Seq.{take-add}
use Rattle.link_capture_grammar.specs.Body.{link_body}
use Rattle.link_capture_grammar.specs.declared.fault.CaptureFault.{CaptureFault}
use Rattle.link_capture_grammar.specs.declared.fault.FaultKind.{FaultKind}
use Rattle.link_capture_grammar.specs.declared.fault.FaultKind.TheVariants.{Cut}
use Rattle.netlink_packet_core_grammar.specs.Attributes.{nla_align}
use Rattle.link_capture_grammar.specs.Captures.{first_frame, first_fault, split_within, texts, shifted, reach, reach_by, HeaderIsAllowed, IsLegal, ReachesFrameAt}
use Rattle.link_capture_grammar.specs.Laws.{CapturesUnfoldByFrames, FramesAreIndependent}
use Rattle.link_capture_grammar.proofs.Frames.{shifted_add}
use Rattle.link_capture_reader.specs.Readers.{IsAcceptedOrCut, IsPendingAfter}
use Rattle.link_capture_reader.specs.Walks.{ReadsTo, OtherFaultIsFirst, MemoryFaultIsAtFrame, IsLegalUpTo}

-- an empty capture has no fault and no texts
pub fault_nil : (limit : ℕ) → first_fault link_body limit [] ≡ None
unfolding split_within
fault_nil limit = refl

pub texts_nil : (limit : ℕ) → texts link_body limit [] ≡ []
unfolding split_within
texts_nil limit = refl

-- t is appended to what is written
pub grown : (old w t : List ℕ) {out new v : List ℕ} → out ≡ old ++ w → new ≡ out ++ t → v ≡ w ++ t → new ≡ old ++ v
grown old w t {out} {new} {v} d e f = e ∙ ap (λ x. x ++ t) d ∙ append_assoc old w t ∙ ap (λ x. old ++ x) (sym f)

-- no byte is passed
pub passed_none : (limit : ℕ) (c : List ℕ) → IsLegalUpTo limit c 0
passed_none limit c = record { inside = omega arith; start = refl; legal = fault_nil limit }

-- the header of an accepted frame isn't refused, nor is that of a cut one
pub accepted_header : FramesAreIndependent link_body → (limit : ℕ) (c : List ℕ) (frame : ℕ × List ℕ) → first_frame link_body limit c ≡ Ok frame → HeaderIsAllowed limit c
accepted_header frames limit c frame h = let a = frames.accepted limit c frame h in inr (omega (arith, a.low, a.is), omega (arith, a.high, a.is))

pub cut_header : FramesAreIndependent link_body → (limit : ℕ) (c : List ℕ) → first_frame link_body limit c ≡ Err Cut → HeaderIsAllowed limit c
cut_header frames limit c h = elim (frames.cut limit c h) [ inl a ↦ inl a | inr a ↦ inr (a.low, a.high) ]

pub stop_zero : (limit : ℕ) (c : List ℕ) → 0 < length c → HeaderIsAllowed limit c → ReachesFrameAt link_body limit c 0
stop_zero limit c h header_allowed = record { inside = h; start = refl; header = header_allowed; legal = fault_nil limit }

pub no_texts : (limit : ℕ) (old : List ℕ) → old ≡ old ++ texts link_body limit []
no_texts limit old = rw (texts_nil limit) (sym (append-nil old))

-- the rest resumes as the whole does
left_resumes : (c : List ℕ) (m : ℕ) (kept : List ℕ) (owed : ℕ) (f : Option CaptureFault) → m ≤ length c → m % 4 ≡ 0 → IsPendingAfter f (drop m c) kept owed → IsPendingAfter (shifted m f) c kept owed
left_resumes c m kept owed None l h r = (r.0, r.1 ∙ (let n = length-drop m c in omega (arith, n)))
left_resumes c m kept owed (Some fault) l h r = (r.0, r.1 ∙ drop-drop fault.offset m c, r.2)

module _ (go : CapturesUnfoldByFrames link_body) where
  -- bytes that follow legal frames are judged and written independently
  legal_reach : (limit : ℕ) (a : List ℕ) → IsLegal link_body limit a → length a % 4 ≡ 0 → reach link_body limit a ≡ length a
  legal_reach limit a h m = ap (reach_by (length a)) h ∙ omega arith

  joined_fault : (limit : ℕ) (a b : List ℕ) → IsLegal link_body limit a → length a % 4 ≡ 0 → first_fault link_body limit (a ++ b) ≡ shifted (length a) (first_fault link_body limit b)
  joined_fault limit a b h m =
      go.rest_fault limit a b ∙ ap (λ n. shifted n (first_fault link_body limit (drop n (a ++ b)))) (legal_reach limit a h m)
      ∙ ap (λ c. shifted (length a) (first_fault link_body limit c)) (drop_at a b (length a) refl)

  joined_texts : (limit : ℕ) (a b : List ℕ) → IsLegal link_body limit a → length a % 4 ≡ 0 → texts link_body limit (a ++ b) ≡ texts link_body limit a ++ texts link_body limit b
  joined_texts limit a b h m =
      go.rest_texts limit a b ∙ ap (λ n. texts link_body limit a ++ texts link_body limit (drop n (a ++ b))) (legal_reach limit a h m)
      ∙ ap (λ c. texts link_body limit a ++ texts link_body limit c) (drop_at a b (length a) refl)

  -- the fault and the texts of a walk are those of the rest of the string
  pub left_fault : (limit : ℕ) (c : List ℕ) (m : ℕ) → IsLegalUpTo limit c m → first_fault link_body limit c ≡ shifted m (first_fault link_body limit (drop m c))
  left_fault limit c m w =
      let n : length (take m c) ≡ m = length-take m c ∙ omega (arith, w.inside) in
      ap (first_fault link_body limit) (sym (take-append-drop m c))
      ∙ joined_fault limit (take m c) (drop m c) w.legal (ap (λ k. k % 4) n ∙ w.start)
      ∙ ap (λ k. shifted k (first_fault link_body limit (drop m c))) n

  pub left_texts : (limit : ℕ) (c : List ℕ) (m : ℕ) → IsLegalUpTo limit c m → texts link_body limit c ≡ texts link_body limit (take m c) ++ texts link_body limit (drop m c)
  left_texts limit c m w =
      let n : length (take m c) ≡ m = length-take m c ∙ omega (arith, w.inside) in
      ap (texts link_body limit) (sym (take-append-drop m c))
      ∙ joined_texts limit (take m c) (drop m c) w.legal (ap (λ k. k % 4) n ∙ w.start)

  pub left_stop : (limit : ℕ) (c : List ℕ) (m at : ℕ) → IsLegalUpTo limit c m → ReachesFrameAt link_body limit (drop m c) at → ReachesFrameAt link_body limit c (m + at)
  left_stop limit c m at w h =
      let n : length (take m c) ≡ m = length-take m c ∙ omega (arith, w.inside) in
      record {
        inside = omega (arith, h.inside, length-drop m c);
        start = omega (arith, h.start, w.start);
        header = subst (HeaderIsAllowed limit) (drop-drop at m c) h.header;
        legal = ap (first_fault link_body limit) (take-add m at c)
            ∙ joined_fault limit (take m c) (take at (drop m c)) w.legal (ap (λ k. k % 4) n ∙ w.start)
            ∙ ap (shifted (length (take m c))) h.legal;
      }

  pub left_stop_texts : (limit : ℕ) (c : List ℕ) (m at : ℕ) → IsLegalUpTo limit c m → texts link_body limit (take (m + at) c) ≡ texts link_body limit (take m c) ++ texts link_body limit (take at (drop m c))
  left_stop_texts limit c m at w =
      let n : length (take m c) ≡ m = length-take m c ∙ omega (arith, w.inside) in
      ap (texts link_body limit) (take-add m at c) ∙ joined_texts limit (take m c) (take at (drop m c)) w.legal (ap (λ k. k % 4) n ∙ w.start)

  -- the capture begins with an accepted frame and its padding
  pub passed_one : (limit : ℕ) (c : List ℕ) (frame : ℕ × List ℕ) → first_frame link_body limit c ≡ Ok frame → nla_align frame.0 ≤ length c → IsLegalUpTo limit c (nla_align frame.0)
  passed_one limit c frame h l = record { inside = l; start = omega arith; legal = go.one_legal limit c frame h }

  -- the string ends with that frame, or inside its padding
  pub only_one_fault : (limit : ℕ) (c : List ℕ) (frame : ℕ × List ℕ) → first_frame link_body limit c ≡ Ok frame → length c ≤ nla_align frame.0 → first_fault link_body limit c ≡ None
  only_one_fault limit c frame h l = ap (first_fault link_body limit) (sym (take_all (nla_align frame.0) c l)) ∙ go.one_legal limit c frame h

  pub only_one_texts : (limit : ℕ) (c : List ℕ) (frame : ℕ × List ℕ) → first_frame link_body limit c ≡ Ok frame → length c ≤ nla_align frame.0 → texts link_body limit c ≡ frame.1
  only_one_texts limit c frame h l = ap (texts link_body limit) (sym (take_all (nla_align frame.0) c l)) ∙ go.one_frame_text limit c frame h

  -- Once enough bytes are there, all bytes before that offset are passed.
  pub resume_passed : (limit : ℕ) (s p : List ℕ) → reach link_body limit s ≤ length (s ++ p) → IsLegalUpTo limit (s ++ p) (reach link_body limit s)
  resume_passed limit s p l = record { inside = l; start = go.reach_start limit s; legal = go.reach_legal limit s p }

  pub resume_texts : (limit : ℕ) (s p : List ℕ) → texts link_body limit (take (reach link_body limit s) (s ++ p)) ≡ texts link_body limit s
  resume_texts limit s p = go.reach_texts limit s p

  -- The texts so far, and those of the rest.
  pub then_texts : (limit : ℕ) (c : List ℕ) (m : ℕ) (left t old : List ℕ) {out new : List ℕ} → IsLegalUpTo limit c m → left ≡ drop m c → texts link_body limit (take m c) ≡ t → out ≡ old ++ t → new ≡ out ++ texts link_body limit left → new ≡ old ++ texts link_body limit c
  then_texts limit c m left t old w l e o n =
      n ∙ ap (λ x. x ++ texts link_body limit left) o ∙ append_assoc old t (texts link_body limit left)
      ∙ ap (λ x. old ++ x) (ap (λ x. t ++ texts link_body limit x) l ∙ ap (λ x. x ++ texts link_body limit (drop m c)) (sym e) ∙ sym (left_texts limit c m w))

  pub then_resumes : (limit : ℕ) (c : List ℕ) (m : ℕ) (left kept : List ℕ) (owed : ℕ) → IsLegalUpTo limit c m → left ≡ drop m c → IsPendingAfter (first_fault link_body limit left) left kept owed → IsPendingAfter (first_fault link_body limit c) c kept owed
  then_resumes limit c m left kept owed w l r =
      subst (λ f. IsPendingAfter f c kept owed) (sym (left_fault limit c m w))
      (left_resumes c m kept owed (first_fault link_body limit (drop m c)) w.inside w.start (subst (λ x. IsPendingAfter (first_fault link_body limit x) x kept owed) l r))

  pub then_fault : (limit : ℕ) (c : List ℕ) (m start at : ℕ) (left : List ℕ) (fault : CaptureFault) → IsLegalUpTo limit c m → left ≡ drop m c → at ≡ start + m → shifted at (first_fault link_body limit left) ≡ Some fault → shifted start (first_fault link_body limit c) ≡ Some fault
  then_fault limit c m start at left fault w l e h =
      ap (shifted start) (left_fault limit c m w) ∙ shifted_add start m at (first_fault link_body limit (drop m c)) (sym e) ∙ ap (λ x. shifted at (first_fault link_body limit x)) (sym l) ∙ h

  pub then_stop : (limit : ℕ) (c : List ℕ) (m at : ℕ) (left : List ℕ) → IsLegalUpTo limit c m → left ≡ drop m c → ReachesFrameAt link_body limit left at → ReachesFrameAt link_body limit c (m + at)
  then_stop limit c m at left w l h = left_stop limit c m at w (subst (λ x. ReachesFrameAt link_body limit x at) l h)

  pub then_stop_texts : (limit : ℕ) (c : List ℕ) (m at : ℕ) (left t old : List ℕ) {out new : List ℕ} → IsLegalUpTo limit c m → left ≡ drop m c → texts link_body limit (take m c) ≡ t → out ≡ old ++ t → new ≡ out ++ texts link_body limit (take at left) → new ≡ old ++ texts link_body limit (take (m + at) c)
  then_stop_texts limit c m at left t old w l e o n =
      n ∙ ap (λ x. x ++ texts link_body limit (take at left)) o ∙ append_assoc old t (texts link_body limit (take at left))
      ∙ ap (λ x. old ++ x) (ap (λ x. t ++ texts link_body limit (take at x)) l ∙ ap (λ x. x ++ texts link_body limit (take at (drop m c))) (sym e) ∙ sym (left_stop_texts limit c m at w))

  -- a string that is cut in its first frame
  pub cut_resumes : (limit : ℕ) (c : List ℕ) → 0 < length c → first_frame link_body limit c ≡ Err Cut → IsPendingAfter (first_fault link_body limit c) c c 0
  cut_resumes limit c l h = subst (λ f. IsPendingAfter f c c 0) (sym (go.first_frame_fault limit c Cut l h)) (refl, refl, refl)

  pub start_fault : (limit start : ℕ) (c : List ℕ) (kind : FaultKind) → 0 < length c → first_frame link_body limit c ≡ Err kind → shifted start (first_fault link_body limit c) ≡ Some (record { kind = kind; offset = start })
  start_fault limit start c kind l h = let z : start + 0 ≡ start = omega arith in ap (shifted start) (go.first_frame_fault limit c kind l h) ∙ ap (λ n. Some (record { kind = kind; offset = n })) z

  pub start_texts : (limit : ℕ) (c old : List ℕ) (kind : FaultKind) → first_frame link_body limit c ≡ Err kind → old ≡ old ++ texts link_body limit c
  start_texts limit c old kind h = sym (append-nil old) ∙ ap (λ x. old ++ x) (sym (go.first_frame_texts limit c kind h))

  -- What holds of the rest, as a statement about the whole.
  pub then_reads_to : (limit : ℕ) (c : List ℕ) (m : ℕ) (left t old out new kept : List ℕ) (owed : ℕ) → IsLegalUpTo limit c m → left ≡ drop m c → texts link_body limit (take m c) ≡ t → out ≡ old ++ t → ReadsTo limit left out new kept owed → ReadsTo limit c old new kept owed
  then_reads_to limit c m left t old out new kept owed w l e o h =
      (then_resumes limit c m left kept owed w l h.0, then_texts limit c m left t old w l e o h.1)

  pub then_faults : (limit : ℕ) (c : List ℕ) (m start at : ℕ) (left t old out new : List ℕ) (fault : CaptureFault) → IsLegalUpTo limit c m → left ≡ drop m c → at ≡ start + m → texts link_body limit (take m c) ≡ t → out ≡ old ++ t → OtherFaultIsFirst limit at left out new fault → OtherFaultIsFirst limit start c old new fault
  then_faults limit c m start at left t old out new fault w l a e o h = λ n.
      let q = h n in (q.0, then_fault limit c m start at left fault w l a q.1, then_texts limit c m left t old w l e o q.2)

  pub then_runs_out : (R S : Type 0) (limit : ℕ) (c : List ℕ) (m start at : ℕ) (left t old out new : List ℕ) (fault : CaptureFault) → (S → R) → IsLegalUpTo limit c m → left ≡ drop m c → at ≡ start + m → texts link_body limit (take m c) ≡ t → out ≡ old ++ t → MemoryFaultIsAtFrame R limit at left out new fault → MemoryFaultIsAtFrame S limit start c old new fault
  then_runs_out R S limit c m start at left t old out new fault reserved w l a e o h = λ n.
      let q = h n in (
        m + q.0,
        omega (arith, q.1, a),
        then_stop limit c m q.0 left w l q.2,
        then_stop_texts limit c m q.0 left t old w l e o q.3,
        λ r. subst (IsAcceptedOrCut limit) (ap (drop q.0) l ∙ drop-drop q.0 m c) (q.4 (reserved r)),
      )

  -- one frame further
  pub passed_fault : (limit : ℕ) (c : List ℕ) (at : ℕ) (frame : ℕ × List ℕ) → IsLegalUpTo limit c at → first_frame link_body limit (drop at c) ≡ Ok frame → IsLegal link_body limit (take (at + nla_align frame.0) c)
  passed_fault limit c at frame w h =
      let n : length (take at c) ≡ at = length-take at c ∙ omega (arith, w.inside) in
      ap (first_fault link_body limit) (take-add at (nla_align frame.0) c)
      ∙ joined_fault limit (take at c) (take (nla_align frame.0) (drop at c)) w.legal (ap (λ m. m % 4) n ∙ w.start)
      ∙ ap (shifted (length (take at c))) (go.one_legal limit (drop at c) frame h)

  pub passed_texts : (limit : ℕ) (c : List ℕ) (at : ℕ) (frame : ℕ × List ℕ) → IsLegalUpTo limit c at → first_frame link_body limit (drop at c) ≡ Ok frame → texts link_body limit (take (at + nla_align frame.0) c) ≡ texts link_body limit (take at c) ++ frame.1
  passed_texts limit c at frame w h =
      left_stop_texts limit c at (nla_align frame.0) w ∙ ap (λ t. texts link_body limit (take at c) ++ t) (go.one_frame_text limit (drop at c) frame h)

  -- the rest has a fault at its start
  pub passed_stop_fault : (limit : ℕ) (c : List ℕ) (at : ℕ) (kind : FaultKind) → IsLegalUpTo limit c at → at < length c → first_frame link_body limit (drop at c) ≡ Err kind → first_fault link_body limit c ≡ Some (record { kind = kind; offset = at })
  passed_stop_fault limit c at kind w l h = left_fault limit c at w ∙ start_fault limit at (drop at c) kind (omega (arith, length-drop at c)) h

  pub passed_stop_texts : (limit : ℕ) (c : List ℕ) (at : ℕ) (kind : FaultKind) → IsLegalUpTo limit c at → first_frame link_body limit (drop at c) ≡ Err kind → texts link_body limit c ≡ texts link_body limit (take at c)
  passed_stop_texts limit c at kind w h =
      left_texts limit c at w ∙ ap (λ t. texts link_body limit (take at c) ++ t) (go.first_frame_texts limit (drop at c) kind h) ∙ append-nil (texts link_body limit (take at c))

  -- the bytes before the first fault are legal, and have these texts
  pub before_fault : (limit : ℕ) (c : List ℕ) (fault : CaptureFault) → first_fault link_body limit c ≡ Some fault → IsLegal link_body limit (take fault.offset c) × (texts link_body limit (take fault.offset c) ≡ texts link_body limit c)
  before_fault limit c fault h =
      let at : reach link_body limit c ≡ fault.offset = ap (reach_by (length c)) h in
      let whole : take (reach link_body limit c) (c ++ []) ≡ take fault.offset c = ap (take (reach link_body limit c)) (append-nil c) ∙ ap (λ n. take n c) at in
      (subst (IsLegal link_body limit) whole (go.reach_legal limit c []), ap (texts link_body limit) (sym whole) ∙ go.reach_texts limit c [])
