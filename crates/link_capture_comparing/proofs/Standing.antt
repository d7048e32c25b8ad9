-- How far a side was judged.
use Rattle.std.proofs.Common.{◌≡◌, ◌≢◌, ℕ, ◌+◌, ◌-◌, ◌<◌, ◌≤◌, ◌⊎◌, inl, inr, Some, Ok, Err, List, [], ◌++◌, length, take, drop, sym, ap, subst, ◌∙◌, refl, arith, length-append}
use Rattle.std.proofs.lemmas.Bool.{cases_lt}
use Rattle.std.proofs.lemmas.List.{drop-append-le, drop-drop, length-drop, take_all, take-append-le}
use Rattle.std.proofs.Math.Seq.{drop-append-add}
use Rattle.netlink_packet_core_grammar.specs.Attributes.{nla_align}
use Rattle.link_capture_grammar.specs.Body.{link_body}
use Rattle.link_capture_grammar.specs.declared.fault.CaptureFault.{CaptureFault}
use Rattle.link_capture_grammar.specs.declared.fault.FaultKind.{FaultKind}
use Rattle.link_capture_grammar.specs.declared.fault.FaultKind.TheVariants.{Cut, Memory}
use Rattle.link_capture_grammar.specs.Captures.{first_frame, first_fault, texts, reach, reach_by, IsLegal}
use Rattle.link_capture_grammar.specs.Laws.{CapturesUnfoldByFrames, FramesAreIndependent, PrefixFaults}
use Rattle.link_capture_reader.proofs.Passing.{fault_nil, passed_fault, passed_stop_fault, passed_texts}
use Rattle.link_capture_reader.specs.Devices.{IsPrefix}
use Rattle.link_capture_reader.specs.Walks.{IsLegalUpTo}
use Rattle.link_capture_comparing.specs.Comparisons.{IsFaultAt, IsFaultOf}
use Rattle.link_capture_comparing.specs.Sides.{IsAt, SideState, HasFault, Extends}
use Rattle.link_capture_comparing.proofs.Counting.{prefix_refl, prefix_trans}

-- nothing was read
pub at_start : (limit : ℕ) → IsAt limit [] [] 0
at_start limit = record { start = refl; near = omega arith; legal = fault_nil limit; rest_is = refl }

-- bytes remain, so what was passed is inside
pub passed : (limit : ℕ) (s rest : List ℕ) (at : ℕ) → IsAt limit s rest at → 0 < length rest → IsLegalUpTo limit s at
passed limit s rest at h l =
    let n : length rest ≡ length s - at = ap length h.rest_is ∙ length-drop at s in
    record { inside = omega (arith, n); start = h.start; legal = h.legal }

-- no byte remains, so all is legal
pub all_legal : (limit : ℕ) (s : List ℕ) (at : ℕ) → IsAt limit s [] at → (take at s ≡ s) × IsLegal link_body limit s
all_legal limit s at h =
    let n : 0 ≡ length s - at = ap length h.rest_is ∙ length-drop at s in
    let whole : take at s ≡ s = take_all at s (omega (arith, n)) in
    (whole, subst (IsLegal link_body limit) whole h.legal)

module _ (go : CapturesUnfoldByFrames link_body) where
  -- more bytes came
  legal_more : (limit : ℕ) (s p rest : List ℕ) (at : ℕ) → IsAt limit s rest at → IsLegal link_body limit (take at (s ++ p))
  legal_more limit s p rest at h =
      elim (cases_lt (length s) at) [
        | inl l ↦
            let whole : take at s ≡ s = take_all at s (omega arith) in
            let is_legal : IsLegal link_body limit s = subst (IsLegal link_body limit) whole h.legal in
            let there : reach link_body limit s ≡ at = ap (reach_by (length s)) is_legal ∙ omega (arith, h.near, h.start, l) in
            subst (λ n. IsLegal link_body limit (take n (s ++ p))) there (go.reach_legal limit s p)
        | inr l ↦ subst (IsLegal link_body limit) (sym (take-append-le at s p l)) h.legal
      ]

  pub text_more : (limit : ℕ) (s p rest : List ℕ) (at : ℕ) → IsAt limit s rest at → texts link_body limit (take at (s ++ p)) ≡ texts link_body limit (take at s)
  text_more limit s p rest at h =
      elim (cases_lt (length s) at) [
        | inl l ↦
            let whole : take at s ≡ s = take_all at s (omega arith) in
            let is_legal : IsLegal link_body limit s = subst (IsLegal link_body limit) whole h.legal in
            let there : reach link_body limit s ≡ at = ap (reach_by (length s)) is_legal ∙ omega (arith, h.near, h.start, l) in
            ap (λ n. texts link_body limit (take n (s ++ p))) (sym there) ∙ go.reach_texts limit s p ∙ ap (texts link_body limit) (sym whole)
        | inr l ↦ ap (texts link_body limit) (take-append-le at s p l)
      ]

  rest_more : (limit : ℕ) (s p w : List ℕ) (from at : ℕ) → length w ≤ length s → at ≡ (length s - length w) + from → IsAt limit s (drop from w) at → drop from (w ++ p) ≡ drop at (s ++ p)
  rest_more limit s p w from at l e h =
      elim (cases_lt (length w) from) [
        | inl k ↦
            let f : from ≡ length w + (from - length w) = omega (arith, k) in
            let a : at ≡ length s + (from - length w) = omega (arith, k, l, e) in
            ap (λ n. drop n (w ++ p)) f ∙ drop-append-add w p (from - length w) ∙ sym (drop-append-add s p (from - length w)) ∙ ap (λ n. drop n (s ++ p)) (sym a)
        | inr k ↦ drop-append-le from w p k ∙ ap (λ x. x ++ p) h.rest_is ∙ sym (drop-append-le at s p (omega (arith, k, l, e)))
      ]

  pub more_at : (limit : ℕ) (s p w : List ℕ) (from at : ℕ) → length w ≤ length s → at ≡ (length s - length w) + from → IsAt limit s (drop from w) at → IsAt limit (s ++ p) (drop from (w ++ p)) at
  more_at limit s p w from at l e h = record {
    start = h.start;
    near = omega (arith, h.near, length-append s p);
    legal = legal_more limit s p (drop from w) at h;
    rest_is = rest_more limit s p w from at l e h;
  }

  -- the fault of the next frame
  pub stuck_fault : (limit : ℕ) (s rest : List ℕ) (at : ℕ) (kind : FaultKind) → IsAt limit s rest at → 0 < length rest → first_frame link_body limit rest ≡ Err kind → first_fault link_body limit s ≡ Some (record { kind = kind; offset = at })
  stuck_fault limit s rest at kind h l e =
      let n : length rest ≡ length s - at = ap length h.rest_is ∙ length-drop at s in
      passed_stop_fault go limit s at kind (passed limit s rest at h l) (omega (arith, n)) (ap (first_frame link_body limit) (sym h.rest_is) ∙ e)

  -- one frame further
  pub passed_at : FramesAreIndependent link_body → (limit : ℕ) (s rest : List ℕ) (at : ℕ) (frame : ℕ × List ℕ) → IsAt limit s rest at → 0 < length rest → first_frame link_body limit rest ≡ Ok frame → IsAt limit s (drop (nla_align frame.0) rest) (at + nla_align frame.0)
  passed_at frames limit s rest at frame h l e =
      let n : length rest ≡ length s - at = ap length h.rest_is ∙ length-drop at s in
      let a = frames.accepted limit rest frame e in
      record {
        start = omega (arith, h.start);
        near = omega (arith, n, a.whole, a.low);
        legal = passed_fault go limit s at frame (passed limit s rest at h l) (ap (first_frame link_body limit) (sym h.rest_is) ∙ e);
        rest_is = ap (drop (nla_align frame.0)) h.rest_is ∙ drop-drop (nla_align frame.0) at s;
      }

  pub passed_text : (limit : ℕ) (s rest : List ℕ) (at : ℕ) (frame : ℕ × List ℕ) → IsAt limit s rest at → 0 < length rest → first_frame link_body limit rest ≡ Ok frame → texts link_body limit (take (at + nla_align frame.0) s) ≡ texts link_body limit (take at s) ++ frame.1
  passed_text limit s rest at frame h l e = passed_texts go limit s at frame (passed limit s rest at h l) (ap (first_frame link_body limit) (sym h.rest_is) ∙ e)

-- a fault of a frame, by its kind
pub fault_at : (limit : ℕ) (s : List ℕ) (kind : FaultKind) (at : ℕ) → kind ≢ Memory → first_fault link_body limit s ≡ Some (record { kind = kind; offset = at }) → IsFaultAt limit s kind at
fault_at limit s Memory at n h = absurd (n refl)
fault_at limit s kind at n h = h

-- no memory, at a frame that is cut
pub memory_at : (limit : ℕ) (s : List ℕ) (at : ℕ) → first_fault link_body limit s ≡ Some (record { kind = Cut; offset = at }) → IsFaultAt limit s Memory at
memory_at limit s at h = (s, prefix_refl s, h)

-- a fault stays when more bytes come
fault_stays_at : PrefixFaults link_body → (limit : ℕ) (s t : List ℕ) (kind : FaultKind) (at : ℕ) → kind ≢ Cut → IsPrefix s t → IsFaultAt limit s kind at → IsFaultAt limit t kind at
fault_stays_at stay limit s t Memory at n p h = (h.0, prefix_trans h.0 s t h.1 p, h.2)
fault_stays_at stay limit s t kind at n p h = ap (first_fault link_body limit) p.1 ∙ stay limit s p.0 (record { kind = kind; offset = at }) h n

is_cut : (kind : FaultKind) → (kind ≡ Cut) ⊎ (kind ≢ Cut)
is_cut Cut = inl refl
is_cut kind = inr (λ e. cc)

pub fault_stays : PrefixFaults link_body → (r : SideState) (s t : List ℕ) (fault : CaptureFault) → HasFault r s fault → Extends r.ended s t → IsFaultOf r.limit t fault
fault_stays stay r s t fault h x =
    elim (is_cut fault.kind) [
      | inl e ↦ subst (λ u. IsFaultOf r.limit u fault) (sym (x.1 (h.1 e))) h.0
      | inr n ↦ fault_stays_at stay r.limit s t fault.kind fault.offset n x.0 h.0
    ]
