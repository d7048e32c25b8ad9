-- What a side finds: a frame, the end, or a fault.
use Rattle.std.proofs.Common.{◌≡◌, ◌≢◌, ℕ, ◌+◌, ◌-◌, ◌<◌, ◌≤◌, inl, inr, Bool, true, false, is_some, Option, None, Some, Result, Ok, Err, List, [], ◌∷◌, ◌++◌, length, take, drop, sym, ap, subst, ◌∙◌, refl, arith, length-append}
use Rattle.std.specs.Prelude.{⊤}
use Rattle.std.proofs.lemmas.List.{drop-drop, length-drop}
use Rattle.netlink_packet_core_grammar.specs.Attributes.{nla_align}
use Rattle.netlink_packet_core_grammar.specs.Frames.{BeginsWithFrame, frame_length}
use Rattle.link_capture_grammar.specs.Body.{link_body}
use Rattle.link_capture_grammar.specs.declared.fault.CaptureFault.{CaptureFault}
use Rattle.link_capture_grammar.specs.declared.fault.FaultKind.{FaultKind}
use Rattle.link_capture_grammar.specs.declared.fault.FaultKind.TheVariants.{Cut, Memory}
use Rattle.link_capture_grammar.specs.Captures.{Judged, checked_header, first_fault, first_frame, IsLegal, IsOfFrames}
use Rattle.link_capture_grammar.specs.Laws.{CapturesUnfoldByFrames, FramesAreIndependent, PrefixFaults}
use Rattle.link_capture_reader.specs.States.{SourceState}
use Rattle.link_capture_comparing.specs.Comparisons.{IsFaultAt}
use Rattle.link_capture_comparing.specs.Readings.{HasRead}
use Rattle.link_capture_comparing.specs.Sides.{IsAt, SideState, HasPassedFrames, Extends, FindsFrame, Finishes, HasJudged, HasStopped, HasVerdict, IsAtFrame, HasStoppedOrPassed, offset_of, rest_of, window_of}
use Rattle.link_capture_comparing.proofs.Counting.{prefix_refl, prefix_trans, stops_later}
use Rattle.link_capture_comparing.proofs.Standing.{all_legal, fault_stays, memory_at, more_at, passed_at, stuck_fault}

-- a refused header has bytes
pub refused_header : (limit : ℕ) (c : List ℕ) (kind : FaultKind) → kind ≢ Cut → ((judged : Judged) → checked_header limit (length c) (frame_length c) judged ≡ Err kind) → 0 < length c
refused_header limit [] kind n h = absurd (n (let e = h (Err Cut) in cc))
refused_header limit (b ∷ c) kind n h = omega arith

-- the side has a fault now
pub found_fault : (initial now : SourceState) (before r then : SideState) (s t : List ℕ) (kind : FaultKind) (at : ℕ) → then ≡ record r { fault = Some (record { kind = kind; offset = at }) } → Extends before.ended s t → HasRead initial now r.ended r.read t → IsFaultAt r.limit t kind at → (kind ≡ Cut → r.ended ≡ true) →
    FindsFrame initial now before then s (Ok None)
found_fault initial now before r then s t kind at e x h f c =
    subst (λ (z : SideState). FindsFrame initial now before z s (Ok None)) (sym e) (t, x, h, (f, c))

-- the side is at its end
pub found_end : (initial now : SourceState) (before r : SideState) (s t : List ℕ) → r.fault ≡ None → r.ended ≡ true → rest_of r ≡ [] → Extends before.ended s t → HasRead initial now r.ended r.read t → HasPassedFrames r t → FindsFrame initial now before r s (Ok None)
found_end initial now before r s t n e l x h w = (t, x, h, subst (λ f. HasStopped f r t) (sym n) (w, l, e))

-- the bytes at hand don't depend on a buffer that isn't used
pub unused : (kept one two : List ℕ) (n : ℕ) → (kept ≡ [] → n ≡ 0) → window_of kept (take n one) ≡ window_of kept (take n two)
unused [] one two n h = let z : n ≡ 0 = h refl in ap (λ k. take k one) z ∙ ap (λ k. take k two) (sym z)
unused (x ∷ kept) one two n h = refl

-- more was read of a source that hadn't reported its end
pub extends_more : (ended : Bool) (s t p : List ℕ) → (ended ≡ true → ⊥) → Extends ended s t → Extends ended s (t ++ p)
extends_more ended s t p n x = (prefix_trans s t (t ++ p) x.0 (p, refl), λ e. absurd (n e))

-- there was no memory for a cut frame
pub found_no_memory : CapturesUnfoldByFrames link_body → (initial now : SourceState) (before r room then : SideState) (s t : List ℕ) → room.limit ≡ r.limit → room.read ≡ r.read → room.ended ≡ r.ended → offset_of room ≡ offset_of r → then ≡ record room { fault = Some (record { kind = Memory; offset = offset_of room }) } →
    Extends before.ended s t → HasRead initial now r.ended r.read t → HasPassedFrames r t → 0 < length (rest_of r) → first_frame link_body r.limit (rest_of r) ≡ Err Cut → FindsFrame initial now before then s (Ok None)
found_no_memory go initial now before r room then s t limit read ended at e x h w more cut =
    let fault : first_fault link_body room.limit t ≡ Some (record { kind = Cut; offset = offset_of room }) =
    ap (λ l. first_fault link_body l t) limit ∙ stuck_fault go r.limit t (rest_of r) (offset_of r) Cut w more cut ∙ ap (λ n. Some (record { kind = Cut; offset = n })) (sym at) in
    found_fault initial now before room then s t Memory (offset_of room) e x
    (subst (λ b. HasRead initial now b room.read t) (sym ended) (subst (λ n. HasRead initial now r.ended n t) (sym read) h))
    (memory_at room.limit t (offset_of room) fault) (λ q. absurd cc)

-- The side `room`, after capacity was reserved, is `then` once a piece of n bytes is taken.
pub record Takes (room then : SideState) (w p : List ℕ) (n : ℕ) (ended : Bool) : Type 0 where
  pub is : then ≡ record { limit = room.limit; read = room.read + n; window = w ++ p; from = room.from; ended = ended; fault = room.fault }
  pub window : w ≡ room.window
  pub size : length p ≡ n
  pub inside : length room.window ≤ room.read

pub takes_inside : (room then : SideState) (w p : List ℕ) (n : ℕ) (ended : Bool) → Takes room then w p n ended → length then.window ≤ then.read
takes_inside room then w p n ended h =
    let one = ap length h.window in
    subst (λ (z : SideState). length z.window ≤ z.read) (sym h.is) (omega (arith, one, h.inside, h.size, length-append w p))

pub takes_offset : (room then : SideState) (w p : List ℕ) (n : ℕ) (ended : Bool) → Takes room then w p n ended → offset_of then ≡ offset_of room
takes_offset room then w p n ended h =
    let one = ap length h.window in
    let there : (room.read + n - length (w ++ p)) + room.from ≡ offset_of room = omega (arith, one, h.inside, h.size, length-append w p) in
    ap offset_of h.is ∙ there

pub takes : CapturesUnfoldByFrames link_body → (initial now : SourceState) (e : Bool) (r room then : SideState) (w p : List ℕ) (n : ℕ) (ended : Bool) (s t : List ℕ) → Takes room then w p n ended → room.limit ≡ r.limit → room.read ≡ r.read → rest_of room ≡ rest_of r → offset_of room ≡ offset_of r →
    (e ≡ true → ⊥) → Extends e s t → HasRead initial now ended (room.read + n) (t ++ p) → r.read ≡ length t → HasPassedFrames r t →
    (u : List ℕ) × Extends e s u × HasRead initial now then.ended then.read u × HasPassedFrames then u
takes go initial now e r room then w p n ended s t h limit read rest at unended x g count stands =
    let inside : length w ≤ length t = omega (arith, ap length h.window, h.inside, read, count) in
    let there : offset_of r ≡ (length t - length w) + room.from = omega (arith, ap length h.window, h.inside, read, count, at) in
    let left : drop room.from w ≡ rest_of r = ap (drop room.from) h.window ∙ rest in
    let one : IsAt r.limit t (drop room.from w) (offset_of r) = subst (λ y. IsAt r.limit t y (offset_of r)) (sym left) stands in
    let two : IsAt room.limit (t ++ p) (drop room.from (w ++ p)) (offset_of r) =
    subst (λ m. IsAt m (t ++ p) (drop room.from (w ++ p)) (offset_of r)) (sym limit) (more_at go r.limit t p w room.from (offset_of r) inside there one) in
    let far : (room.read + n - length (w ++ p)) + room.from ≡ offset_of r = omega (arith, ap length h.window, h.inside, h.size, length-append w p, at) in
    let three = subst (λ k. IsAt room.limit (t ++ p) (drop room.from (w ++ p)) k) (sym far) two in (
      t ++ p,
      extends_more e s t p unended x,
      subst (λ (z : SideState). HasRead initial now z.ended z.read (t ++ p)) (sym h.is) g,
      subst (λ (z : SideState). HasPassedFrames z (t ++ p)) (sym h.is) three,
    )

-- a fault of frames isn't a lack of memory
pub not_memory : (kind : FaultKind) → IsOfFrames kind → kind ≢ Memory
not_memory Memory h = λ e. h
not_memory kind h = λ e. cc

-- a whole frame isn't cut
pub whole_not_cut : FramesAreIndependent link_body → (limit : ℕ) (c : List ℕ) (kind : FaultKind) → BeginsWithFrame c → first_frame link_body limit c ≡ Err kind → kind ≢ Cut
whole_not_cut frames limit c kind f h e =
    elim (frames.cut limit c (h ∙ ap (λ k. Err k) e)) [ inl a ↦ absurd (omega (arith, f.has_header)) | inr a ↦ absurd (omega (arith, f.within, a.short)) ]

-- a frame was passed
pub passes : CapturesUnfoldByFrames link_body → FramesAreIndependent link_body → (r then : SideState) (t : List ℕ) (frame : ℕ × List ℕ) → then ≡ record r { from = r.from + nla_align frame.0 } → HasPassedFrames r t → 0 < length (rest_of r) → first_frame link_body r.limit (rest_of r) ≡ Ok frame → HasPassedFrames then t
passes go frames r then t frame e h l f =
    let there = passed_at go frames r.limit t (rest_of r) (offset_of r) frame h l f in
    let left : drop (nla_align frame.0) (rest_of r) ≡ drop (r.from + nla_align frame.0) r.window = drop-drop (nla_align frame.0) r.from r.window in
    let far : offset_of r + nla_align frame.0 ≡ (r.read - length r.window) + (r.from + nla_align frame.0) = omega arith in
    subst (λ (z : SideState). HasPassedFrames z t) (sym e)
    (subst (λ k. IsAt r.limit t (drop (r.from + nla_align frame.0) r.window) k) far (subst (λ x. IsAt r.limit t x (offset_of r + nla_align frame.0)) left there))

pub passes_offset : (r then : SideState) (n : ℕ) → then ≡ record r { from = r.from + nla_align n } → offset_of then ≡ offset_of r + nla_align n
passes_offset r then n e = let far : (r.read - length r.window) + (r.from + nla_align n) ≡ offset_of r + nla_align n = omega arith in ap offset_of e ∙ far

-- a frame at hand is inside what was read
pub frame_inside : (r : SideState) → 0 < length (rest_of r) → length r.window ≤ r.read → offset_of r < r.read
frame_inside r l h = let n : length (rest_of r) ≡ length r.window - r.from = length-drop r.from r.window in omega (arith, n)

-- a side with a fault has stopped
pub stopped_some : (fault : Option CaptureFault) (r : SideState) (s : List ℕ) → is_some fault ≡ true → HasJudged fault r s → HasStopped fault r s
stopped_some None r s e h = absurd cc
stopped_some (Some fault) r s e h = h

pub stopped_judged : (fault : Option CaptureFault) (r : SideState) (s : List ℕ) → HasStopped fault r s → HasJudged fault r s
stopped_judged None r s h = h.0
stopped_judged (Some fault) r s h = h

pub extends_trans : (e f : Bool) (s t u : List ℕ) → (e ≡ true → f ≡ true) → Extends e s t → Extends f t u → Extends e s u
extends_trans e f s t u k x y = (prefix_trans s t u x.0 y.0, λ h. y.1 (k h) ∙ x.1 h)

pub extends_refl : (e : Bool) (s : List ℕ) → Extends e s s
extends_refl e s = (prefix_refl s, λ h. refl)

-- the verdict of a side that has stopped, once the source is read
verdict : PrefixFaults link_body → (r : SideState) (fault : Option CaptureFault) (t u : List ℕ) → HasStopped fault r t → Extends r.ended t u → HasVerdict fault r.limit u
verdict stay r None t u h x =
    let at : IsAt r.limit t [] (offset_of r) = subst (λ y. IsAt r.limit t y (offset_of r)) h.1 h.0 in
    subst (IsLegal link_body r.limit) (sym (x.1 h.2)) (all_legal r.limit t (offset_of r) at).1
verdict stay r (Some fault) t u h x = fault_stays stay r t u fault h x

pub finish_stopped : PrefixFaults link_body → {A : Type 0} (initial now : SourceState) (e : Bool) (r : SideState) (limit : ℕ) (s t : List ℕ) (result : Result A CaptureFault) (fault : Option CaptureFault) → r.limit ≡ limit → fault ≡ r.fault → HasStopped r.fault r t → Extends e s t → (e ≡ true → r.ended ≡ true) →
    Finishes initial now r.ended t result (λ _. ⊤) → Finishes initial now e s result (HasVerdict fault limit)
finish_stopped stay initial now e r limit s t (Ok x) fault l f h y k z = (
  z.0,
  extends_trans e r.ended s t z.0 k y z.1,
  z.2,
  subst (λ n. HasVerdict fault n z.0) l (subst (λ v. HasVerdict v r.limit z.0) (sym f) (verdict stay r r.fault t z.0 h z.1)),
)
finish_stopped stay initial now e r limit s t (Err x) fault l f h y k z = stops_later initial now s t x y.0 z

pub none_if : (fault : Option CaptureFault) → is_some fault ≡ false → fault ≡ None
none_if None e = refl
none_if (Some fault) e = absurd cc

-- a side that is at a frame or has stopped
pub at_frame_judged : (o : Option ℕ) (r : SideState) (s : List ℕ) → IsAtFrame r o → HasStoppedOrPassed o r s → HasJudged r.fault r s
at_frame_judged None r s i h = stopped_judged r.fault r s h
at_frame_judged (Some n) r s i h = subst (λ f. HasJudged f r s) (sym i.3) h
