-- Captures whose numbers are cleared.
use Rattle.std.proofs.Common.{◌≡◌, ℕ, ◌^◌, ◌<◌, Bool, true, false, List, [], ◌++◌, length, take, drop, Ok, Err, refl, sym, ap, subst, ◌∙◌, append-nil, arith}
use Rattle.std.specs.Prelude.{◌&&◌, nat_le, nat_lt}
use Rattle.std.proofs.lemmas.Bool.{and_from, le-leb, ltb-false, ltb-true}
use Rattle.std.proofs.lemmas.List.{length-take, length-take-le, drop_at, drop_all}
use Rattle.netlink_packet_core_grammar.specs.Attributes.{nla_align}
use Rattle.netlink_packet_core_grammar.specs.Frames.{frame_length, begins_with_frame}
use Rattle.link_message_grammar.specs.Body.{link_body}
use Rattle.link_capture_grammar.specs.declared.fault.FaultKind.{FaultKind}
use Rattle.link_capture_grammar.specs.Captures.{IsFrameOfLength, shifted, first_frame, first_fault, texts}
use Rattle.link_capture_numbers.specs.Cleared.{first_frame_cleared, numbers_cleared}
use Rattle.link_capture_numbers.specs.Laws.{ClearedCapturesHaveClearedTexts}
use Rattle.link_capture_grammar.proofs.WholeFrames.{length_of}
use Rattle.link_capture_numbers.proofs.Steps.{whole, stopped}
use Rattle.link_capture_numbers.proofs.Zeros.{cleared_first}
use Rattle.link_capture_numbers.proofs.FirstFrames.{shape}
use Rattle.link_capture_numbers.proofs.Judged.{judged, judged_cleared}
use Rattle.link_capture_numbers.proofs.ClearedTexts.{first_frame_of_text}
use Rattle.link_capture_grammar.proofs.Frames.{accepted, by_frames, fault_step, fault_stop, texts_step, texts_stop}

-- the bytes after the start of a cleared capture
after_by : (c : List ℕ) (n : ℕ) (f rest : List ℕ) (b : Bool) → length f ≡ length c → nat_lt (length c) n ≡ b → (drop n c ≡ [] → rest ≡ []) → drop n (take n f ++ rest) ≡ rest
after_by c n f rest false e l h =
    let k = ltb-false (length c) n l in
    let size : length (take n f) ≡ n = length-take-le n f (omega (arith, k, e)) in
    drop_at (take n f) rest n size
after_by c n f rest true e l h =
    let k = ltb-true (length c) n l in
    let none : rest ≡ [] = h (drop_all n c (omega (arith, k))) in
    let size = length-take n f in
    ap (λ z. drop n (take n f ++ z)) none ∙ ap (drop n) (append-nil (take n f)) ∙ drop_all n (take n f) (omega (arith, size)) ∙ sym none

nothing : (c : List ℕ) → c ≡ [] → numbers_cleared c ≡ []
nothing c e = subst (λ z. numbers_cleared z ≡ []) (sym e) (stopped [] refl)

-- the bytes after the first frame of a cleared capture
pub following : (c : List ℕ) → begins_with_frame c ≡ true → drop (nla_align (frame_length c)) (numbers_cleared c) ≡ numbers_cleared (drop (nla_align (frame_length c)) c)
following c f =
    let n = nla_align (frame_length c) in
    let bounds = length_of c f in
    ap (drop n) (whole c f)
    ∙ after_by c n (first_frame_cleared c) (numbers_cleared (drop n c)) (nat_lt (length c) n) (cleared_first c bounds.0 bounds.1).size refl (nothing (drop n c))

-- an accepted frame is whole
frame_is : (limit : ℕ) (c : List ℕ) (frame : ℕ × List ℕ) → IsFrameOfLength limit c frame.0 → begins_with_frame c ≡ true
frame_is limit c frame a =
    let header = a.header in
    let low = a.low in
    let inside = a.whole in
    let is = a.is in
    and_from (nat_le 16 (length c)) (nat_le 16 (frame_length c) && nat_le (frame_length c) (length c)) (le-leb 16 (length c) header)
    (and_from (nat_le 16 (frame_length c)) (nat_le (frame_length c) (length c)) (le-leb 16 (frame_length c) (omega (arith, low, is))) (le-leb (frame_length c) (length c) (omega (arith, inside, is))))

module _ (limit : ℕ) (small : limit < 2 ^ 32) where
  -- the first frame of a cleared capture
  first_cleared : (c : List ℕ) → begins_with_frame c ≡ true → first_frame link_body limit (numbers_cleared c) ≡ judged_cleared (first_frame link_body limit c)
  first_cleared c f =
      let bounds = length_of c f in
      let more = numbers_cleared (drop (nla_align (frame_length c)) c) in
      let d = take (nla_align (frame_length c)) (first_frame_cleared c) ++ more in
      ap (first_frame link_body limit) (whole c f) ∙ judged limit small c d bounds.0 bounds.1 (shape c more bounds.0 bounds.1)

  -- its first fault is that of the capture, and its texts are cleared
  abbrev IsCleared : List ℕ → Type 0
  IsCleared c = (first_fault link_body limit (numbers_cleared c) ≡ first_fault link_body limit c) × (texts link_body limit (numbers_cleared c) ≡ numbers_cleared (texts link_body limit c))

  next : (c : List ℕ) (frame : ℕ × List ℕ) → first_frame link_body limit c ≡ Ok frame → IsCleared (drop (nla_align frame.0) c) → IsCleared c
  next c frame h more =
      let a = accepted link_body limit c frame h in
      let f = frame_is limit c frame a in
      let n = nla_align frame.0 in
      let cleared_result : first_frame link_body limit (numbers_cleared c) ≡ Ok (frame.0, first_frame_cleared frame.1) = first_cleared c f ∙ ap judged_cleared h in
      let rest : drop n (numbers_cleared c) ≡ numbers_cleared (drop n c) = subst (λ m. drop (nla_align m) (numbers_cleared c) ≡ numbers_cleared (drop (nla_align m) c)) a.is (following c f) in (
        fault_step link_body limit (numbers_cleared c) (frame.0, first_frame_cleared frame.1) cleared_result
            ∙ ap (λ z. shifted n (first_fault link_body limit z)) rest
            ∙ ap (shifted n) more.0
            ∙ sym (fault_step link_body limit c frame h),
        texts_step link_body limit (numbers_cleared c) (frame.0, first_frame_cleared frame.1) cleared_result
            ∙ ap (λ z. first_frame_cleared frame.1 ++ texts link_body limit z) rest
            ∙ ap (λ z. first_frame_cleared frame.1 ++ z) more.1
            ∙ sym (first_frame_of_text limit small c frame h (texts link_body limit (drop n c)))
            ∙ sym (ap numbers_cleared (texts_step link_body limit c frame h)),
      )

  stop : (c : List ℕ) (kind : FaultKind) → first_frame link_body limit c ≡ Err kind → IsCleared c
  stop c kind h = by (begins_with_frame c) refl
    where
      no_text : numbers_cleared (texts link_body limit c) ≡ []
      no_text = nothing (texts link_body limit c) (texts_stop link_body limit c kind h)

      by : (b : Bool) → begins_with_frame c ≡ b → IsCleared c
      by false f = (ap (first_fault link_body limit) (stopped c f), ap (texts link_body limit) (stopped c f) ∙ texts_stop link_body limit c kind h ∙ sym no_text)
      by true f =
          let bounds = length_of c f in
          let cleared_result : first_frame link_body limit (numbers_cleared c) ≡ Err kind = first_cleared c f ∙ ap judged_cleared h in
          let long = (shape c (numbers_cleared (drop (nla_align (frame_length c)) c)) bounds.0 bounds.1).long in (
            fault_stop link_body limit (numbers_cleared c) kind (omega (arith, ap length (whole c f), long, bounds.0)) cleared_result ∙ sym (fault_stop link_body limit c kind (omega (arith, bounds.0, bounds.1)) h),
            texts_stop link_body limit (numbers_cleared c) kind cleared_result ∙ sym no_text,
          )

  all_cleared : (c : List ℕ) → IsCleared c
  all_cleared = by_frames link_body limit IsCleared next stop

pub cleared : ClearedCapturesHaveClearedTexts
cleared = record { fault = λ limit c small. (all_cleared limit small c).0; texts_cleared = λ limit c small. (all_cleared limit small c).1 }
