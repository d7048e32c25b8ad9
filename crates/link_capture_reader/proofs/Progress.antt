-- The progress of the engine.
use Rattle.std.proofs.Common.{◌≡◌, ◌≢◌, ◌&&◌, eqb, ltb, false, ℕ, ◌+◌, ◌-◌, ◌^◌, ◌<◌, ◌≤◌, inl, inr, min, Option, None, Some, Result, Ok, Err, IfErr, OnOk, List, [], ◌++◌, length, take, drop, sym, ap, subst, ◌∙◌, arith, append_assoc, length-append}
use Rattle.std.proofs.lemmas.List.{take_at, append-nil, take-append-drop, length-take}
use Rattle.std.specs.Io.KnownBytes.{Appends, Consumes}
use Rattle.link_capture_grammar.specs.Body.{link_body}
use Rattle.link_capture_grammar.specs.declared.fault.CaptureFault.{CaptureFault}
use Rattle.link_capture_grammar.specs.declared.fault.FaultKind.{FaultKind}
use Rattle.link_capture_grammar.specs.declared.fault.FaultKind.TheVariants.{Cut, Memory, Read, Write, TooLong, Failed}
use Rattle.link_capture_grammar.specs.Captures.{first_frame, first_fault, texts}
use Rattle.link_capture_grammar.specs.Laws.{CapturesUnfoldByFrames, FaultsAreAtFrames, FramesAreIndependent, PrefixTexts}
use Rattle.link_capture_reader.specs.Readers.{IsReservedIfCut, ReaderState, IsConsistentWith, IsPendingAfter, Gains, FeedFault}
use Rattle.link_capture_reader.specs.Outcomes.{HasNoFaultButCut, IsNormalizeFault}
use Rattle.link_capture_reader.specs.Devices.{IsPrefix, counted, is_end}
use Rattle.link_capture_reader.proofs.Passing.{before_fault, cut_header, texts_nil}
use Rattle.std.proofs.KnownBytes.{Appends-nil, Appends-trans, Consumes-nil, Consumes-trans}
use Rattle.std.proofs.lemmas.Bool.{ne_eqb}

-- s was read and accepted, and its texts are written
pub record Came (limit : ℕ) (reader : ReaderState) (written : ℕ) (come_old come_new holds_old holds_new : Option (List ℕ)) (s : List ℕ) : Type 0 where
  pub limit_is : reader.limit ≡ limit
  pub is_consistent : IsConsistentWith reader s
  pub consumed : Consumes come_old come_new s
  pub wrote : Appends holds_old holds_new (texts link_body limit s)
  pub count : written ≡ min (length (texts link_body limit s)) (2 ^ 64 - 1)

pub nothing_came : (limit : ℕ) (reader : ReaderState) (come holds : Option (List ℕ)) → reader.limit ≡ limit → IsConsistentWith reader [] → Came limit reader 0 come come holds holds []
nothing_came limit reader come holds e h = record {
  limit_is = e;
  is_consistent = h;
  consumed = Consumes-nil come;
  wrote = subst (Appends holds holds) (sym (texts_nil limit)) (Appends-nil holds);
  count = ap (λ (t : List ℕ). min (length t) (2 ^ 64 - 1)) (sym (texts_nil limit));
}

-- The same statement after memory was reserved.
pub came_reserved : (limit : ℕ) (reader then : ReaderState) (written : ℕ) (come_old come_new holds_old holds_new : Option (List ℕ)) (s : List ℕ) → then ≡ record reader { capacity = then.capacity } → Came limit reader written come_old come_new holds_old holds_new s → Came limit then written come_old come_new holds_old holds_new s
came_reserved limit reader then written come_old come_new holds_old holds_new s e came =
    let h = came.is_consistent in
    subst (λ r. Came limit r written come_old come_new holds_old holds_new s) (sym e) (record {
      limit_is = came.limit_is;
      is_consistent = record { unfailed = h.unfailed; accepted = h.accepted; rest = h.rest };
      consumed = came.consumed;
      wrote = came.wrote;
      count = came.count;
    })

pub open_from : (f : Option CaptureFault) (s kept : List ℕ) (owed : ℕ) → IsPendingAfter f s kept owed → HasNoFaultButCut f
open_from None s kept owed r = tt
open_from (Some fault) s kept owed r = r.0

all_is : (limit : ℕ) (s t out : List ℕ) → Gains limit s t [] out → texts link_body limit s ++ out ≡ texts link_body limit t
all_is limit s t out g = ap (λ x. texts link_body limit s ++ x) g.2 ∙ sym g.1

-- One more piece was read and accepted, and what it adds is written.
pub came_more : (limit : ℕ) (reader then : ReaderState) (written total : ℕ) (come_old come_between come_new holds_old holds_between holds_new : Option (List ℕ)) (s p old out : List ℕ) → Came limit reader written come_old come_between holds_old holds_between s → old ≡ [] → then.limit ≡ reader.limit → IsConsistentWith then (s ++ p) → Gains reader.limit s (s ++ p) old out → Consumes come_between come_new p → Appends holds_between holds_new out → total ≡ min (written + length out) (2 ^ 64 - 1) →
    Came limit then total come_old come_new holds_old holds_new (s ++ p)
came_more limit reader then written total come_old come_between come_new holds_old holds_between holds_new s p old out came e l h g c a n =
    let all : texts link_body limit s ++ out ≡ texts link_body limit (s ++ p) =
    subst (λ m. texts link_body m s ++ out ≡ texts link_body m (s ++ p)) came.limit_is (all_is reader.limit s (s ++ p) out (subst (λ o. Gains reader.limit s (s ++ p) o out) e g)) in
    record {
      limit_is = l ∙ came.limit_is;
      is_consistent = h;
      consumed = Consumes-trans come_old come_between come_new s p came.consumed c;
      wrote = subst (Appends holds_old holds_new) all (Appends-trans holds_old holds_between holds_new (texts link_body limit s) out came.wrote a);
      count = omega (arith, n, came.count, ap length all, length-append (texts link_body limit s) out);
    }

-- A read of some bytes doesn't report the end.
pub unended : (n capacity m : ℕ) → n ≢ 0 → counted (is_end (Ok n) capacity) m ≡ m
unended n capacity m h = let e : eqb n 0 ≡ false = ne_eqb n 0 h in ap (λ x. counted (x && ltb 0 capacity) m) e

-- What was written, followed by what `feed` appends to an empty vector, is a prefix of the texts.
prefix_is : (limit : ℕ) (s t out : List ℕ) (whole : List ℕ) → Gains limit s t [] out → IsPrefix (texts link_body limit t) whole → IsPrefix (texts link_body limit s ++ out) whole
prefix_is limit s t out whole g p = subst (λ x. IsPrefix x whole) (g.1 ∙ ap (λ x. texts link_body limit s ++ x) (sym g.2)) p

nothing_more : (limit : ℕ) (s out : List ℕ) (whole : List ℕ) → out ≡ [] → IsPrefix (texts link_body limit s) whole → IsPrefix (texts link_body limit s ++ out) whole
nothing_more limit s out whole e p = subst (λ x. IsPrefix x whole) (sym (append-nil (texts link_body limit s)) ∙ ap (λ x. texts link_body limit s ++ x) (sym e)) p

whole_is : (limit : ℕ) (c : List ℕ) → IsPrefix (texts link_body limit c) (texts link_body limit c)
whole_is limit c = ([], sym (append-nil (texts link_body limit c)))

-- the texts of a prefix of a capture are a prefix of its texts
prefix_take : PrefixTexts link_body → (limit n : ℕ) (c : List ℕ) → IsPrefix (texts link_body limit (take n c)) (texts link_body limit c)
prefix_take stay limit n c = subst (λ x. IsPrefix (texts link_body limit (take n c)) (texts link_body limit x)) (take-append-drop n c) (stay limit (take n c) (drop n c))

fed_prefix_at : PrefixTexts link_body → (R : Type 0) (limit : ℕ) (s p out : List ℕ) (kind : FaultKind) (at : ℕ) → FeedFault R limit s p [] out kind at → IsPrefix (texts link_body limit s ++ out) (texts link_body limit (s ++ p))
fed_prefix_at stay R limit s p out Cut at h = absurd h
fed_prefix_at stay R limit s p out Memory at h = prefix_is limit s (take at (s ++ p)) out (texts link_body limit (s ++ p)) h.2 (prefix_take stay limit at (s ++ p))
fed_prefix_at stay R limit s p out Read at h = absurd h
fed_prefix_at stay R limit s p out Write at h = absurd h
fed_prefix_at stay R limit s p out TooLong at h = nothing_more limit s out (texts link_body limit (s ++ p)) h.2 (stay limit s p)
fed_prefix_at stay R limit s p out Failed at h = absurd h
fed_prefix_at stay R limit s p out kind at h = prefix_is limit s (s ++ p) out (texts link_body limit (s ++ p)) h.2 (whole_is limit (s ++ p))

-- the contract of `feed` for a reader that is consistent with s
abbrev pub FeedOk : ReaderState → ReaderState → List ℕ → List ℕ → List ℕ → Type 0
FeedOk reader then p old out = (s : List ℕ) → IsConsistentWith reader s → (length s + length p < 2 ^ 64) × IsConsistentWith then (s ++ p) × Gains reader.limit s (s ++ p) old out

abbrev pub FeedErr : ReaderState → List ℕ → List ℕ → List ℕ → CaptureFault → Type 0
FeedErr reader p old out fault = (s : List ℕ) → IsConsistentWith reader s → FeedFault (IsReservedIfCut reader.kept reader.capacity (length p)) reader.limit s p old out fault.kind fault.offset

pub fed_prefix : PrefixTexts link_body → (limit : ℕ) (reader then : ReaderState) (s p old out : List ℕ) (r : Result (Unit {0}) CaptureFault) → reader.limit ≡ limit → old ≡ [] → IsConsistentWith reader s → OnOk r (FeedOk reader then p old out) → IfErr r (FeedErr reader p old out) → IsPrefix (texts link_body limit s ++ out) (texts link_body limit (s ++ p))
fed_prefix stay limit reader then s p old out (Ok x) l e h a b =
    subst (λ n. IsPrefix (texts link_body n s ++ out) (texts link_body n (s ++ p))) l
    (prefix_is reader.limit s (s ++ p) out (texts link_body reader.limit (s ++ p)) (subst (λ o. Gains reader.limit s (s ++ p) o out) e (a s h).2) (whole_is reader.limit (s ++ p)))
fed_prefix stay limit reader then s p old out (Err fault) l e h a b =
    subst (λ n. IsPrefix (texts link_body n s ++ out) (texts link_body n (s ++ p))) l
    (fed_prefix_at stay (IsReservedIfCut reader.kept reader.capacity (length p)) reader.limit s p out fault.kind fault.offset
    (subst (λ o. FeedFault (IsReservedIfCut reader.kept reader.capacity (length p)) reader.limit s p o out fault.kind fault.offset) e (b s h)))

-- a prefix of what `feed` appended
pub part_prefix : (a out whole : List ℕ) (n : ℕ) → IsPrefix (a ++ out) whole → IsPrefix (a ++ take n out) whole
part_prefix a out whole n h = (
  drop n out ++ h.0,
  h.1 ∙ ap (λ x. (a ++ x) ++ h.0) (sym (take-append-drop n out)) ∙ simp append_assoc,
)

-- A write failed: a prefix of the bytes was written.
pub failed_write : (E R W : Type 0) (limit : ℕ) (s a out : List ℕ) (written n : ℕ) (fault : CaptureFault) → W → IsPrefix (a ++ out) (texts link_body limit s) → n ≤ length out → written ≡ min (length a) (2 ^ 64 - 1) → fault.kind ≡ Write → fault.offset ≡ min (written + n) (2 ^ 64 - 1) → IsNormalizeFault E R W limit s (a ++ take n out) fault.kind fault.offset
failed_write E R W limit s a out written n fault w p l c k o =
    let size : length (a ++ take n out) ≡ length a + n = length-append a (take n out) ∙ omega (arith, length-take n out) in
    subst (λ x. IsNormalizeFault E R W limit s (a ++ take n out) x fault.offset) (sym k) (w, omega (arith, size), part_prefix a out (texts link_body limit s) n p)

-- a fault of `feed` is the fault of the engine, once what `feed` appended is written
pub fed_fault : (E R W K : Type 0) (limit : ℕ) (s p out : List ℕ) (kind : FaultKind) (at : ℕ) → K → length p ≤ 65536 → HasNoFaultButCut (first_fault link_body limit s) → FeedFault K limit s p [] out kind at → IsNormalizeFault E R W limit (s ++ p) (texts link_body limit s ++ out) kind at
fed_fault E R W K limit s p out Cut at k z o h = absurd h
fed_fault E R W K limit s p out Memory at k z o h = (h.1, h.3 k, all_is limit s (take at (s ++ p)) out h.2)
fed_fault E R W K limit s p out Read at k z o h = absurd h
fed_fault E R W K limit s p out Write at k z o h = absurd h
fed_fault E R W K limit s p out TooLong at k z o h =
    let e : take at (s ++ p) ≡ s = take_at s p at (sym h.1) in
    record {
      long = omega (arith, h.0, length-append s p);
      inside = omega (arith, h.1, length-append s p);
      last = omega (arith, h.1, length-append s p);
      is_open = subst (λ x. HasNoFaultButCut (first_fault link_body limit x)) (sym e) o;
      written = ap (λ x. texts link_body limit s ++ x) h.2 ∙ append-nil (texts link_body limit s) ∙ ap (texts link_body limit) (sym e);
    }
fed_fault E R W K limit s p out Failed at k z o h = absurd h
fed_fault E R W K limit s p out kind at k z o h = (h.1, all_is limit s (s ++ p) out h.2)

-- memory was reserved for each piece of at most that many bytes
pub kept_less : (kept : List ℕ) (capacity m n : ℕ) → m ≤ n → IsReservedIfCut kept capacity n → IsReservedIfCut kept capacity m
kept_less kept capacity m n l h = elim h [ inl a ↦ inl a | inr a ↦ inr (omega (arith, a, l)) ]

pub fed_outcome : (E R W : Type 0) (limit : ℕ) (reader : ReaderState) (s p old out : List ℕ) (fault : CaptureFault) → reader.limit ≡ limit → old ≡ [] → length p ≤ 65536 → IsReservedIfCut reader.kept reader.capacity 65536 → IsConsistentWith reader s → FeedErr reader p old out fault → IsNormalizeFault E R W limit (s ++ p) (texts link_body limit s ++ out) fault.kind fault.offset
fed_outcome E R W limit reader s p old out fault l e z k h b =
    let K = IsReservedIfCut reader.kept reader.capacity (length p) in
    subst (λ n. IsNormalizeFault E R W n (s ++ p) (texts link_body n s ++ out) fault.kind fault.offset) l
    (fed_fault E R W K reader.limit s p out fault.kind fault.offset (kept_less reader.kept reader.capacity (length p) 65536 z k) z (open_from _ s reader.kept reader.owed h.rest)
    (subst (λ o. FeedFault K reader.limit s p o out fault.kind fault.offset) e (b s h)))

-- no memory could be reserved: the frame is cut in what was read
pub cut_outcome : CapturesUnfoldByFrames link_body → FramesAreIndependent link_body → FaultsAreAtFrames link_body → (E R W : Type 0) (limit : ℕ) (s : List ℕ) (fault : CaptureFault) → fault.kind ≡ Memory → first_fault link_body limit s ≡ Some (record { kind = Cut; offset = fault.offset }) → IsNormalizeFault E R W limit s (texts link_body limit s) fault.kind fault.offset
cut_outcome go frames faults E R W limit s fault m f =
    let cut : CaptureFault = record { kind = Cut; offset = fault.offset } in
    let there : first_frame link_body limit (drop fault.offset s) ≡ Err Cut = go.fault_there limit s cut f in
    let before = before_fault go limit s cut f in
    let at = faults limit s cut f in
    subst (λ k. IsNormalizeFault E R W limit s (texts link_body limit s) k fault.offset) (sym m) (
      record { inside = at.0; start = at.1; header = cut_header frames limit (drop fault.offset s) there; legal = before.0 },
      inr there,
      sym before.1,
    )
