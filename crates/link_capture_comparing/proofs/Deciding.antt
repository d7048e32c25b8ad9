-- The result for two sides.
use Rattle.std.proofs.Common.{◌≡◌, ℕ, ◌+◌, ◌^◌, ◌<◌, inl, inr, Bool, true, false, is_some, Option, None, Some, Err, List, [], ◌++◌, length, take, sym, ap, subst, ◌∙◌, refl, arith}
use mathlib.Core.Bool.{not}
use Rattle.std.specs.Io.KnownBytes.{Consumes}
use Rattle.netlink_packet_core_grammar.specs.Attributes.{nla_align}
use Rattle.netlink_packet_core_grammar.specs.Frames.{BeginsWithFrame, frame_length}
use Rattle.link_capture_grammar.specs.declared.fault.CaptureFault.{CaptureFault}
use Rattle.link_capture_grammar.specs.Captures.{first_frame, texts, IsLegal}
use Rattle.link_capture_grammar.specs.Same.{SameCapture}
use Rattle.link_capture_checks.specs.declared.sameness.SideFault.{SideFault}
use Rattle.link_capture_reader.specs.Devices.{IsPrefix}
use Rattle.link_capture_reader.specs.States.{SourceState}
use Rattle.link_capture_comparing.specs.Comparisons.{ComparesSources, FailsBy, IsFaultOf, IsReadWhole, IsReadUpTo, Sources}
use Rattle.link_capture_comparing.specs.Partings.{IsDecided, PartingFails}
use Rattle.link_capture_comparing.specs.Readings.{HasRead, ReadFailsAfter}
use Rattle.link_capture_comparing.specs.Sides.{IsAt, SideState, HasPassedFrames, HasStopped, IsAtFrame, HasStoppedOrPassed, offset_of, rest_of, new_side}
use Rattle.link_capture_grammar.specs.Body.{link_body}
use Rattle.link_capture_comparing.proofs.Counting.{none_read, stops_later}
use Rattle.link_capture_comparing.proofs.Finding.{passes, passes_offset}
use Rattle.link_capture_comparing.proofs.Standing.{all_legal, at_start, passed_text, text_more}
use Rattle.link_capture_comparing.proofs.Together.{Laws, first_is, left_ended, right_ended, same_next}

-- ---- the fault that is returned

pub first_unread : (q : Sources) (limit : ℕ) (a b : List ℕ) (e : SideFault) (fault : CaptureFault) → e ≡ record { second = false; fault = fault } → IsReadUpTo q.left_before q.left_after a fault → Consumes q.right_before.to_come q.right_after.to_come b → ComparesSources q limit (Err e)
first_unread q limit a b e fault is u c = (a, b, subst (λ (x : SideFault). FailsBy q limit a b x.second x.fault) (sym is) (inl (u, c)))

pub first_faulty : (q : Sources) (limit : ℕ) (a b : List ℕ) (e : SideFault) (fault : CaptureFault) → e ≡ record { second = false; fault = fault } → IsReadWhole q.left_before q.left_after a → IsReadWhole q.right_before q.right_after b → IsFaultOf limit a fault → ComparesSources q limit (Err e)
first_faulty q limit a b e fault is u w f = (a, b, subst (λ (x : SideFault). FailsBy q limit a b x.second x.fault) (sym is) (inr (u, w, f)))

pub second_unread : (q : Sources) (limit : ℕ) (a b : List ℕ) (e : SideFault) (fault : CaptureFault) → e ≡ record { second = true; fault = fault } → IsReadWhole q.left_before q.left_after a → IsReadUpTo q.right_before q.right_after b fault → ComparesSources q limit (Err e)
second_unread q limit a b e fault is w u = (a, b, subst (λ (x : SideFault). FailsBy q limit a b x.second x.fault) (sym is) (w, inl u))

pub second_faulty : (q : Sources) (limit : ℕ) (a b : List ℕ) (e : SideFault) (fault : CaptureFault) → e ≡ record { second = true; fault = fault } → IsReadWhole q.left_before q.left_after a → IsReadWhole q.right_before q.right_after b → IsLegal link_body limit a → IsFaultOf limit b fault → ComparesSources q limit (Err e)
second_faulty q limit a b e fault is w u l f = (a, b, subst (λ (x : SideFault). FailsBy q limit a b x.second x.fault) (sym is) (w, inr (u, l, f)))

-- ---- two sides side by side

pub parting_first : (q : Sources) (l : SideState) (a b : List ℕ) (e : SideFault) (fault : CaptureFault) → e ≡ record { second = false; fault = fault } → ReadFailsAfter q.left_before q.left_after a fault → Consumes q.right_before.to_come q.right_after.to_come b → PartingFails q l e.second e.fault
parting_first q l a b e fault is h c = subst (λ (x : SideFault). PartingFails q l x.second x.fault) (sym is) (stops_later q.left_before q.left_after [] a fault (a, refl) h, (b, c))

pub parting_second : (q : Sources) (l : SideState) (a b : List ℕ) (e : SideFault) (fault : CaptureFault) → e ≡ record { second = true; fault = fault } → HasRead q.left_before q.left_after l.ended l.read a → ReadFailsAfter q.right_before q.right_after b fault → PartingFails q l e.second e.fault
parting_second q l a b e fault is c h = subst (λ (x : SideFault). PartingFails q l x.second x.fault) (sym is) (stops_later q.right_before q.right_after [] b fault (b, refl) h, (a, c))

-- nothing was read of a new side
pub new_read : (s : SourceState) (l : SideState) (limit : ℕ) → l ≡ new_side limit → HasRead s s l.ended l.read []
new_read s l limit e = subst (λ (z : SideState). HasRead s s z.ended z.read []) (sym e) (none_read s)

pub new_stands : (l : SideState) (limit : ℕ) → l ≡ new_side limit → HasPassedFrames l []
new_stands l limit e = subst (λ (z : SideState). HasPassedFrames z []) (sym e) (at_start limit)

pub new_texts : (l r : SideState) (limit : ℕ) → l ≡ new_side limit → r ≡ new_side limit → texts link_body limit (take (offset_of l) []) ≡ texts link_body limit (take (offset_of r) [])
new_texts l r limit e f = ap (λ (z : SideState). texts link_body limit (take (offset_of z) [])) (e ∙ sym f)

-- Of a and b two sides have passed frames whose texts are equal.
pub record Alike (limit : ℕ) (l r : SideState) (a b : List ℕ) : Type 0 where
  pub fits : limit < 2 ^ 32
  pub left_limit : l.limit ≡ limit
  pub right_limit : r.limit ≡ limit
  pub texts : texts link_body limit (take (offset_of l) a) ≡ texts link_body limit (take (offset_of r) b)

at_limit : (r : SideState) (s : List ℕ) (limit : ℕ) → r.limit ≡ limit → HasPassedFrames r s → IsAt limit s (rest_of r) (offset_of r)
at_limit r s limit e h = subst (λ m. IsAt m s (rest_of r) (offset_of r)) e h

-- at its end, all of a side was passed
ended_at : (r : SideState) (s : List ℕ) (limit : ℕ) → r.limit ≡ limit → HasPassedFrames r s → rest_of r ≡ [] → IsAt limit s [] (offset_of r)
ended_at r s limit e h z = subst (λ y. IsAt limit s y (offset_of r)) z (at_limit r s limit e h)

-- a side without a fault that has stopped
stopped_none : (r : SideState) (s : List ℕ) → r.fault ≡ None → HasStopped r.fault r s → HasStopped None r s
stopped_none r s e h = subst (λ f. HasStopped f r s) e h

pub both_ended : Laws → (limit : ℕ) (l r : SideState) (a b : List ℕ) → Alike limit l r a b → HasStopped l.fault l a → HasStopped r.fault r b → IsDecided limit l r a b true
both_ended laws limit l r a b h x y = λ e f c d p q legal_c legal_d.
    let left = stopped_none l a e x in
    let right = stopped_none r b f y in
    let i = all_legal limit a (offset_of l) (ended_at l a limit h.left_limit left.0 left.1) in
    let j = all_legal limit b (offset_of r) (ended_at r b limit h.right_limit right.0 right.1) in
    let equal : texts link_body limit a ≡ texts link_body limit b = ap (texts link_body limit) (sym i.0) ∙ h.texts ∙ ap (texts link_body limit) j.0 in
    let same = laws.meanings.equal_text_implies_same limit a b h.fits i.1 j.1 equal in
    (λ k. subst (SameCapture link_body limit c) (sym (q.1 right.2)) (subst (λ z. SameCapture link_body limit z b) (sym (p.1 left.2)) same), λ s. refl)

pub left_has_ended : Laws → (limit : ℕ) (l r : SideState) (a b : List ℕ) → Alike limit l r a b → HasStopped l.fault l a → HasPassedFrames r b → BeginsWithFrame (rest_of r) → IsDecided limit l r a b false
left_has_ended laws limit l r a b h x y frame = λ e f c d p q legal_c legal_d.
    let left = stopped_none l a e x in
    let i = all_legal limit a (offset_of l) (ended_at l a limit h.left_limit left.0 left.1) in
    let never = λ (s : SameCapture link_body limit c d). left_ended laws limit a b (rest_of r) (offset_of l) (offset_of r) d h.fits (at_limit r b limit h.right_limit y) (omega (arith, frame.has_header)) i.0 h.texts q.0 legal_d
    (subst (λ z. SameCapture link_body limit z d) (p.1 left.2) s) in
    (λ k. absurd cc, λ s. absurd (never s))

pub right_has_ended : Laws → (limit : ℕ) (l r : SideState) (a b : List ℕ) → Alike limit l r a b → HasPassedFrames l a → BeginsWithFrame (rest_of l) → HasStopped r.fault r b → IsDecided limit l r a b false
right_has_ended laws limit l r a b h x frame y = λ e f c d p q legal_c legal_d.
    let right = stopped_none r b f y in
    let j = all_legal limit b (offset_of r) (ended_at r b limit h.right_limit right.0 right.1) in
    let never = λ (s : SameCapture link_body limit c d). right_ended laws limit a b (rest_of l) (offset_of l) (offset_of r) c h.fits (at_limit l a limit h.left_limit x) (omega (arith, frame.has_header)) j.0 h.texts p.0 legal_c
    (subst (λ z. SameCapture link_body limit c z) (q.1 right.2) s) in
    (λ k. absurd cc, λ s. absurd (never s))

pub frames_differ : Laws → (limit : ℕ) (l r : SideState) (a b : List ℕ) (m n : ℕ) → Alike limit l r a b → HasPassedFrames l a → BeginsWithFrame (rest_of l) → m ≡ frame_length (rest_of l) → HasPassedFrames r b → BeginsWithFrame (rest_of r) → n ≡ frame_length (rest_of r) → (SameCapture link_body limit (take m (rest_of l)) (take n (rest_of r)) → ⊥) → IsDecided limit l r a b false
frames_differ laws limit l r a b m n h x frame e y other f differ = λ u v c d p q legal_c legal_d.
    let never = λ (s : SameCapture link_body limit c d). differ (same_next laws limit a b (rest_of l) (rest_of r) (offset_of l) (offset_of r) m n c d h.fits (at_limit l a limit h.left_limit x) (at_limit r b limit h.right_limit y) frame e other f h.texts p.0 q.0 legal_c legal_d s) in
    (λ k. absurd cc, λ s. absurd (never s))

-- ---- two frames that mean the same are passed

pub passes_on : Laws → (limit : ℕ) (r then : SideState) (s : List ℕ) (n : ℕ) → r.limit ≡ limit → then ≡ record r { from = r.from + nla_align n } → HasPassedFrames r s → BeginsWithFrame (rest_of r) → n ≡ frame_length (rest_of r) → IsLegal link_body limit (take n (rest_of r)) →
    HasPassedFrames then s × (texts link_body limit (take (offset_of then) s) ≡ texts link_body limit (take (offset_of r) s) ++ texts link_body limit (take n (rest_of r)))
passes_on laws limit r then s n l e h frame size legal =
    let first = first_is laws limit (rest_of r) n frame size legal in
    let more : 0 < length (rest_of r) = omega (arith, frame.has_header) in
    let there = ap (λ k. first_frame link_body k (rest_of r)) l ∙ first in (
      passes laws.go laws.frames r then s (n, texts link_body limit (take n (rest_of r))) e h more there,
      ap (λ k. texts link_body limit (take k s)) (passes_offset r then n e) ∙ passed_text laws.go limit s (rest_of r) (offset_of r) (n, texts link_body limit (take n (rest_of r))) (at_limit r s limit l h) more first,
    )

-- more was read, and nothing was passed
pub grown : Laws → (limit : ℕ) (l r left right : SideState) (a b c d : List ℕ) → Alike limit l r a b → HasPassedFrames l a → HasPassedFrames r b → left.limit ≡ l.limit → right.limit ≡ r.limit → offset_of left ≡ offset_of l → offset_of right ≡ offset_of r → IsPrefix a c → IsPrefix b d → Alike limit left right c d
grown laws limit l r left right a b c d h x y e f m n p q = record {
  fits = h.fits;
  left_limit = e ∙ h.left_limit;
  right_limit = f ∙ h.right_limit;
  texts = text_at laws limit l left a c h.left_limit x m p ∙ h.texts ∙ sym (text_at laws limit r right b d h.right_limit y n q);
} where
  text_at : Laws → (limit : ℕ) (r then : SideState) (s t : List ℕ) → r.limit ≡ limit → HasPassedFrames r s → offset_of then ≡ offset_of r → IsPrefix s t → texts link_body limit (take (offset_of then) t) ≡ texts link_body limit (take (offset_of r) s)
  text_at laws limit r then s t e h m p =
      ap (λ n. texts link_body limit (take n t)) m ∙ ap (λ z. texts link_body limit (take (offset_of r) z)) p.1 ∙ text_more laws.go limit s p.0 (rest_of r) (offset_of r) (at_limit r s limit e h)

-- the left side has stopped: the captures mean the same if the right one has too
pub left_stopped : Laws → (limit : ℕ) (l r : SideState) (a b : List ℕ) → Alike limit l r a b → HasStopped l.fault l a → (o : Option ℕ) → IsAtFrame r o → HasStoppedOrPassed o r b → (x : Bool) → is_some o ≡ not x → IsDecided limit l r a b x
left_stopped laws limit l r a b h s None i w true e = both_ended laws limit l r a b h s w
left_stopped laws limit l r a b h s None i w false e = absurd cc
left_stopped laws limit l r a b h s (Some n) i w true e = absurd cc
left_stopped laws limit l r a b h s (Some n) i w false e = left_has_ended laws limit l r a b h s w i.0

pub not_false : (b : Bool) → not b ≡ false → b ≡ true
not_false true e = refl
not_false false e = absurd cc
