-- The strings that a reader is consistent with, after another piece.
use Rattle.std.proofs.Common.{◌≡◌, ◌≢◌, ℕ, ◌+◌, ◌-◌, ◌^◌, ◌<◌, ◌≤◌, ◌⊎◌, inl, inr, Option, None, Some, Err, List, [], ◌++◌, length, take, drop, sym, ap, subst, ◌∙◌, refl, arith, length-append}
use Rattle.std.proofs.lemmas.List.{length-drop, append-nil, drop_all, drop-append-le, drop-drop, nil_from_length}
use Rattle.std.proofs.Math.Seq.{drop-append-add}
use Rattle.netlink_packet_core_grammar.specs.Attributes.{nla_align}
use Rattle.link_capture_grammar.specs.Body.{link_body}
use Rattle.link_capture_grammar.specs.declared.fault.CaptureFault.{CaptureFault}
use Rattle.link_capture_grammar.specs.declared.fault.FaultKind.{FaultKind}
use Rattle.link_capture_grammar.specs.declared.fault.FaultKind.TheVariants.{Cut, Memory, Read, Write, TooLong, Failed}
use Rattle.link_capture_grammar.specs.Captures.{first_frame, first_fault, texts, shifted, reach, reach_by, ReachesFrameAt, IsOfFrames}
use Rattle.link_capture_grammar.specs.Laws.{FramesAreIndependent, CapturesUnfoldByFrames, FaultsAreAtFrames}
use Rattle.link_capture_reader.proofs.Passing.{fault_nil, texts_nil, left_fault, left_stop_texts, then_resumes, then_stop, resume_passed, resume_texts}
use Rattle.link_capture_reader.specs.Readers.{IsReservedIfCut, IsAcceptedOrCut, IsReader, IsConsistentWith, IsPendingAfter, Gains, FeedFault}
use Rattle.link_capture_reader.specs.Walks.{ReadsTo, OtherFaultIsFirst, MemoryFaultIsAtFrame, IsLegalUpTo}

-- an empty string has no frame
cut_nil : (limit : ℕ) → first_frame link_body limit [] ≡ Err Cut
unfolding first_frame
cut_nil limit = refl

-- a string is legal, or has a first fault
judged : (fault : Option CaptureFault) → (fault ≡ None) ⊎ ((f : CaptureFault) × (fault ≡ Some f))
judged None = inl refl
judged (Some f) = inr (f, refl)

-- a reader that has read nothing
pub new_reader : (limit capacity : ℕ) → 16 ≤ limit → IsReader (record { limit = limit; accepted = 0; kept = []; capacity = capacity; owed = 0; failed = None })
new_reader limit capacity h = record { limit = h; cut = cut_nil limit; small = omega arith; inside = omega arith; owed = inl refl; padding = omega arith; failed = tt }

pub new_is_consistent : (limit capacity : ℕ) → IsConsistentWith (record { limit = limit; accepted = 0; kept = []; capacity = capacity; owed = 0; failed = None }) []
new_is_consistent limit capacity = record { unfailed = refl; accepted = refl; rest = subst (λ f. IsPendingAfter f [] [] 0) (sym (fault_nil limit)) (refl, refl) }

-- a piece that has only padding
module _ (go : CapturesUnfoldByFrames link_body) where
  pub padding_resumes : (limit : ℕ) (s p kept : List ℕ) (owed : ℕ) → length p ≤ owed → IsPendingAfter (first_fault link_body limit s) s kept owed → IsPendingAfter (first_fault link_body limit (s ++ p)) (s ++ p) kept (owed - length p)
  padding_resumes limit s p kept owed l r =
      elim (judged (first_fault link_body limit s)) [
        | inl w ↦
            let q = subst (λ f. IsPendingAfter f s kept owed) w r in
            let at : reach link_body limit s ≡ nla_align (length s) = ap (reach_by (length s)) w in
            let n = length-append s p in
            let none : first_fault link_body limit (s ++ p) ≡ None =
            go.rest_fault limit s p ∙ ap (λ x. shifted (reach link_body limit s) (first_fault link_body limit x)) (drop_all (reach link_body limit s) (s ++ p) (omega (arith, n, at, q.1)))
            ∙ ap (shifted (reach link_body limit s)) (fault_nil limit) in
            subst (λ f. IsPendingAfter f (s ++ p) kept (owed - length p)) (sym none) (q.0, omega (arith, n, q.1))
        | inr w ↦
            let q = subst (λ f. IsPendingAfter f s kept owed) w.1 r in
            let e : p ≡ [] = nil_from_length p (omega (arith, q.2)) in
            let z : owed - length p ≡ owed = omega (arith, q.2) in
            let n : s ++ p ≡ s = ap (λ x. s ++ x) e ∙ append-nil s in
            subst (λ x. IsPendingAfter (first_fault link_body limit (s ++ p)) (s ++ p) kept x) (sym z) (subst (λ x. IsPendingAfter (first_fault link_body limit x) x kept owed) (sym n) r)
      ]

  pub padding_texts : (limit : ℕ) (s p kept : List ℕ) (owed : ℕ) → length p ≤ owed → IsPendingAfter (first_fault link_body limit s) s kept owed → texts link_body limit (s ++ p) ≡ texts link_body limit s
  padding_texts limit s p kept owed l r =
      elim (judged (first_fault link_body limit s)) [
        | inl w ↦
            let q = subst (λ f. IsPendingAfter f s kept owed) w r in
            let at : reach link_body limit s ≡ nla_align (length s) = ap (reach_by (length s)) w in
            let n = length-append s p in
            go.rest_texts limit s p ∙ ap (λ x. texts link_body limit s ++ texts link_body limit x) (drop_all (reach link_body limit s) (s ++ p) (omega (arith, n, at, q.1)))
            ∙ ap (λ t. texts link_body limit s ++ t) (texts_nil limit) ∙ append-nil (texts link_body limit s)
        | inr w ↦
            let q = subst (λ f. IsPendingAfter f s kept owed) w.1 r in
            let e : p ≡ [] = nil_from_length p (omega (arith, q.2)) in
            ap (λ x. texts link_body limit (s ++ x)) e ∙ ap (texts link_body limit) (append-nil s)
      ]

-- The bytes that are judged if the string gets longer: those of the cut frame, and those after the padding.
pub record Resumed (limit : ℕ) (s p kept : List ℕ) (owed start : ℕ) : Type 0 where
  pub at : reach link_body limit s ≡ start
  pub left : kept ++ drop owed p ≡ drop (reach link_body limit s) (s ++ p)
  pub passed : IsLegalUpTo limit (s ++ p) (reach link_body limit s)

pub resumed : CapturesUnfoldByFrames link_body → FaultsAreAtFrames link_body → (limit : ℕ) (s p kept : List ℕ) (owed start : ℕ) → owed < length p → IsPendingAfter (first_fault link_body limit s) s kept owed → start + length kept ≡ length s + owed → Resumed limit s p kept owed start
resumed go frames_independent limit s p kept owed start l r e =
    let n = length-append s p in
    elim (judged (first_fault link_body limit s)) [
      | inl w ↦
          let q = subst (λ f. IsPendingAfter f s kept owed) w r in
          let at : reach link_body limit s ≡ nla_align (length s) = ap (reach_by (length s)) w in
          let far : reach link_body limit s ≡ length s + owed = omega (arith, at, q.1) in
          let z = ap length q.0 in
          record {
            at = omega (arith, far, z);
            left = ap (λ x. x ++ drop owed p) q.0 ∙ sym (drop-append-add s p owed) ∙ ap (λ m. drop m (s ++ p)) (sym far);
            passed = resume_passed go limit s p (omega (arith, n, far));
          }
      | inr w ↦
          let q = subst (λ f. IsPendingAfter f s kept owed) w.1 r in
          let at : reach link_body limit s ≡ w.0.offset = ap (reach_by (length s)) w.1 in
          let inside : w.0.offset < length s = (frames_independent limit s w.0 w.1).0 in
          let z = ap length q.1 ∙ length-drop w.0.offset s in
          record {
            at = omega (arith, z, q.2, at, inside);
            left = ap (λ m. kept ++ drop m p) q.2 ∙ ap (λ x. x ++ p) q.1 ∙ sym (drop-append-le w.0.offset s p (omega (arith, inside))) ∙ ap (λ m. drop m (s ++ p)) (sym at);
            passed = resume_passed go limit s p (omega (arith, n, at, inside));
          }
    ]

gained : CapturesUnfoldByFrames link_body → (limit : ℕ) (s p kept : List ℕ) (owed start : ℕ) → Resumed limit s p kept owed start → texts link_body limit (s ++ p) ≡ texts link_body limit s ++ texts link_body limit (kept ++ drop owed p)
gained go limit s p kept owed start w = go.rest_texts limit s p ∙ ap (λ x. texts link_body limit s ++ texts link_body limit x) (sym w.left)

pub owed_after : CapturesUnfoldByFrames link_body → (limit : ℕ) (s p kept : List ℕ) (owed start : ℕ) (old new more : List ℕ) (then : ℕ) → Resumed limit s p kept owed start → ReadsTo limit (kept ++ drop owed p) old new more then → IsPendingAfter (first_fault link_body limit (s ++ p)) (s ++ p) more then × Gains limit s (s ++ p) old new
owed_after go limit s p kept owed start old new more then w h = (
  then_resumes go limit (s ++ p) (reach link_body limit s) (kept ++ drop owed p) more then w.passed w.left h.0,
  (texts link_body limit (kept ++ drop owed p), gained go limit s p kept owed start w, h.1),
)

-- a fault of a frame, by its kind
feed_fault : (R : Type 0) (limit : ℕ) (s p old new : List ℕ) (kind : FaultKind) (at : ℕ) → kind ≢ Cut → IsOfFrames kind → length s + length p < 2 ^ 64 → first_fault link_body limit (s ++ p) ≡ Some (record { kind = kind; offset = at }) → Gains limit s (s ++ p) old new → FeedFault R limit s p old new kind at
feed_fault R limit s p old new Cut at c k l f g = c refl
feed_fault R limit s p old new Memory at c k l f g = absurd k
feed_fault R limit s p old new Read at c k l f g = k
feed_fault R limit s p old new Write at c k l f g = k
feed_fault R limit s p old new TooLong at c k l f g = absurd k
feed_fault R limit s p old new Failed at c k l f g = k
feed_fault R limit s p old new kind at c k l f g = (l, f, g)

memory_fault : (R : Type 0) (limit : ℕ) (s p old new : List ℕ) (kind : FaultKind) (at : ℕ) → kind ≡ Memory → length s + length p < 2 ^ 64 → ReachesFrameAt link_body limit (s ++ p) at → Gains limit s (take at (s ++ p)) old new → (R → IsAcceptedOrCut limit (drop at (s ++ p))) → FeedFault R limit s p old new kind at
memory_fault R limit s p old new kind at e l h g n = subst (λ k. FeedFault R limit s p old new k at) (sym e) (l, h, g, n)

is_memory : (kind : FaultKind) → (kind ≡ Memory) ⊎ (kind ≢ Memory)
is_memory Memory = inl refl
is_memory kind = inr (λ e. cc)

-- memory that was reserved for a piece is reserved for the bytes after its padding
pub runs_out_of_fewer : (kept : List ℕ) (capacity limit start : ℕ) (p : List ℕ) (owed : ℕ) (old new : List ℕ) (fault : CaptureFault) → MemoryFaultIsAtFrame (IsReservedIfCut kept capacity (length (drop owed p))) limit start (kept ++ drop owed p) old new fault → MemoryFaultIsAtFrame (IsReservedIfCut kept capacity (length p)) limit start (kept ++ drop owed p) old new fault
runs_out_of_fewer kept capacity limit start p owed old new fault h = λ m.
    let q = h m in
    let fewer : length (drop owed p) ≤ length p = omega (arith, length-drop owed p) in
    (q.0, q.1, q.2, q.3, λ r. q.4 (elim r [ inl a ↦ inl a | inr a ↦ inr (omega (arith, a, fewer)) ]))

pub faults_on : (R : Type 0) → CapturesUnfoldByFrames link_body → FaultsAreAtFrames link_body → (limit : ℕ) (s p kept : List ℕ) (owed start : ℕ) (old new : List ℕ) (fault : CaptureFault) → length s + length p < 2 ^ 64 → Resumed limit s p kept owed start → OtherFaultIsFirst limit start (kept ++ drop owed p) old new fault → MemoryFaultIsAtFrame R limit start (kept ++ drop owed p) old new fault → FeedFault R limit s p old new fault.kind fault.offset
faults_on R go frames_independent limit s p kept owed start old new fault l w h k =
    let d = kept ++ drop owed p in
    elim (is_memory fault.kind) [
      | inl e ↦
          let q = k e in
          let at : fault.offset ≡ reach link_body limit s + q.0 = q.1 ∙ ap (λ n. n + q.0) (sym w.at) in
          memory_fault R limit s p old new fault.kind fault.offset e l
          (subst (ReachesFrameAt link_body limit (s ++ p)) (sym at) (then_stop go limit (s ++ p) (reach link_body limit s) q.0 d w.passed w.left q.2)) (
            texts link_body limit (take q.0 d),
            ap (λ n. texts link_body limit (take n (s ++ p))) at ∙ left_stop_texts go limit (s ++ p) (reach link_body limit s) q.0 w.passed ∙ ap (λ t. t ++ texts link_body limit (take q.0 (drop (reach link_body limit s) (s ++ p)))) (resume_texts go limit s p)
                ∙ ap (λ x. texts link_body limit s ++ texts link_body limit (take q.0 x)) (sym w.left),
            q.3,
          ) (λ r. subst (IsAcceptedOrCut limit) (ap (drop q.0) w.left ∙ drop-drop q.0 (reach link_body limit s) (s ++ p) ∙ ap (λ n. drop n (s ++ p)) (sym at)) (q.4 r))
      | inr e ↦
          let q = h e in
          let f : first_fault link_body limit (s ++ p) ≡ Some fault =
          left_fault go limit (s ++ p) (reach link_body limit s) w.passed ∙ ap (λ x. shifted (reach link_body limit s) (first_fault link_body limit x)) (sym w.left) ∙ ap (λ n. shifted n (first_fault link_body limit d)) w.at ∙ q.1 in
          feed_fault R limit s p old new fault.kind fault.offset q.0 (frames_independent limit (s ++ p) fault f).2 l f (texts link_body limit d, gained go limit s p kept owed start w, q.2)
    ]

-- what is kept and owed after a string is the state of a reader
pub resumes_reader : CapturesUnfoldByFrames link_body → FramesAreIndependent link_body → (limit accepted : ℕ) (c kept : List ℕ) (capacity owed : ℕ) → 16 ≤ limit → length c ≤ accepted → IsPendingAfter (first_fault link_body limit c) c kept owed → IsReader (record { limit = limit; accepted = accepted; kept = kept; capacity = capacity; owed = owed; failed = None })
resumes_reader go independent limit accepted c kept capacity owed h l r =
    elim (judged (first_fault link_body limit c)) [
      | inl w ↦
          let q = subst (λ f. IsPendingAfter f c kept owed) w r in
          let z = ap length q.0 in
          record {
            limit = h;
            cut = ap (first_frame link_body limit) q.0 ∙ cut_nil limit;
            small = omega (arith, z);
            inside = omega (arith, z);
            owed = inr q.0;
            padding = omega (arith, q.1);
            failed = tt;
          }
      | inr w ↦
          let q = subst (λ f. IsPendingAfter f c kept owed) w.1 r in
          let z = ap length q.1 ∙ length-drop w.0.offset c in
          let cut : first_frame link_body limit kept ≡ Err Cut = ap (first_frame link_body limit) q.1 ∙ go.fault_there limit c w.0 w.1 ∙ ap (λ k. Err k) q.0 in
          record {
            limit = h;
            cut = cut;
            small = elim (independent.cut limit kept cut) [ inl a ↦ omega arith | inr a ↦ omega (arith, a.short, a.high) ];
            inside = omega (arith, z);
            owed = inl q.2;
            padding = omega (arith, q.2);
            failed = tt;
          }
    ]

-- a reader after a fault
pub failed_reader : (limit accepted capacity offset : ℕ) → 16 ≤ limit → IsReader (record { limit = limit; accepted = accepted; kept = []; capacity = capacity; owed = 0; failed = Some offset })
failed_reader limit accepted capacity offset h = record { limit = h; cut = cut_nil limit; small = omega arith; inside = omega arith; owed = inl refl; padding = omega arith; failed = refl }

-- no frame is cut if none of its bytes is there
pub nothing_cut : FaultsAreAtFrames link_body → (limit : ℕ) (s : List ℕ) (owed : ℕ) → IsPendingAfter (first_fault link_body limit s) s [] owed → first_fault link_body limit s ≡ None
nothing_cut frames_independent limit s owed r =
    elim (judged (first_fault link_body limit s)) [
      | inl w ↦ w
      | inr w ↦
          let q = subst (λ f. IsPendingAfter f s [] owed) w.1 r in
          let z = ap length q.1 ∙ length-drop w.0.offset s in
          let inside : w.0.offset < length s = (frames_independent limit s w.0 w.1).0 in
          absurd (omega (arith, z, inside))
    ]
