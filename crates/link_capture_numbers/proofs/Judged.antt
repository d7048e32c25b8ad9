-- The result for a frame of a capture whose numbers are cleared.
use Rattle.std.proofs.Common.{◌≡◌, ℕ, ◌+◌, ◌-◌, ◌^◌, ◌<◌, ◌≤◌, Bool, true, false, cond, List, length, drop, Result, Ok, Err, refl, sym, ap, ◌∙◌, arith}
use Rattle.std.specs.Prelude.{nat_eq, nat_le, nat_lt}
use Rattle.std.proofs.lemmas.Bool.{and_parts, eqb-true, le-ltb, ltb-false, ltb-true}
use Rattle.std.proofs.lemmas.List.{length-take-le, length-drop}
use Rattle.netlink_packet_core_grammar.specs.Frames.{BeginsWithFrame, frame_length, frame_type, frame_body, frame_text}
use Rattle.link_message_grammar.specs.Body.{link_body}
use Rattle.link_capture_grammar.specs.declared.fault.FaultKind.TheVariants.{OverLimit}
use Rattle.link_capture_grammar.specs.Bodies.{body_text}
use Rattle.link_capture_grammar.specs.Captures.{Judged, checked_header, first_frame}
use Rattle.link_capture_grammar.specs.Laws.{FramesAreJudged}
use Rattle.link_capture_grammar.proofs.EveryRule.{in_force}
use Rattle.link_capture_grammar.proofs.Same
use Rattle.link_capture_numbers.specs.Cleared.{zeros_at, repeats_request, first_frame_cleared}
use Rattle.link_capture_numbers.proofs.Zeros.{length-zeros, repeated}
use Rattle.link_capture_numbers.proofs.FirstFrames.{Shape, fields}
use Rattle.link_capture_numbers.proofs.Texts.{text_cleared, frame_cleared}
use Rattle.link_capture_grammar.specs.declared.fault.FaultKind.{FaultKind}
use Rattle.link_capture_grammar.specs.declared.fault.FaultKind.TheVariants.{Refused}

abbrev pub judged_cleared : Judged → Judged
judged_cleared (Ok frame) = Ok (frame.0, first_frame_cleared frame.1)
judged_cleared (Err kind) = Err kind

-- ---- bodies

-- the body of an ERROR of 4 bytes or more is already canonical
error_kept : (b : List ℕ) → 4 ≤ length b → body_text link_body 2 b ≡ Ok b
unfolding body_text
error_kept b h = ap (λ z. cond z (Err Refused) (Ok b)) (le-ltb (length b) 4 h)

pub error_is : (b text : List ℕ) → body_text link_body 2 b ≡ Ok text → b ≡ text
unfolding body_text
error_is b text e = Same.error_is b text e

-- a body's text or its refusal, with the numbers of the header that it repeats cleared
abbrev pub cleared_determined : Bool → Result (List ℕ) FaultKind → Result (List ℕ) FaultKind
cleared_determined b (Ok text) = Ok (text_cleared b text)
cleared_determined b (Err why) = Err why

same_determined : (o : Result (List ℕ) FaultKind) → cleared_determined false o ≡ o
same_determined (Ok text) = refl
same_determined (Err why) = refl

pub body_size : (c : List ℕ) → 16 ≤ frame_length c → frame_length c ≤ length c → length (frame_body c) ≡ frame_length c - 16
body_size c l m = length-take-le (frame_length c - 16) (drop 16 c) (omega (arith, l, m, length-drop 16 c))

body_determined_by : (c : List ℕ) (b : Bool) → repeats_request c ≡ b → 16 ≤ frame_length c → frame_length c ≤ length c → body_text link_body (frame_type c) (cond b (zeros_at 12 (frame_body c)) (frame_body c)) ≡ cleared_determined b (body_text link_body (frame_type c) (frame_body c))
body_determined_by c false e l m = sym (same_determined (body_text link_body (frame_type c) (frame_body c)))
body_determined_by c true e l m =
    let two : frame_type c ≡ 2 = eqb-true (frame_type c) 2 (and_parts (nat_eq (frame_type c) 2) (nat_le 36 (frame_length c)) e).0 in
    let long = repeated c e in
    let size = body_size c l m in
    let whole : body_text link_body (frame_type c) (frame_body c) ≡ Ok (frame_body c) = ap (λ t. body_text link_body t (frame_body c)) two ∙ error_kept (frame_body c) (omega (arith, size, long)) in
    let zeroed : length (zeros_at 12 (frame_body c)) ≡ length (frame_body c) = length-zeros 12 (frame_body c) (omega (arith, size, long)) in
    ap (λ t. body_text link_body t (zeros_at 12 (frame_body c))) two ∙ error_kept (zeros_at 12 (frame_body c)) (omega (arith, zeroed, size, long)) ∙ sym (ap (cleared_determined true) whole)

cleared_body_determined : (c d : List ℕ) → 16 ≤ frame_length c → frame_length c ≤ length c → Shape c d → body_text link_body (frame_type d) (frame_body d) ≡ cleared_determined (repeats_request c) (body_text link_body (frame_type c) (frame_body c))
cleared_body_determined c d l m s = ap (λ t. body_text link_body t (frame_body d)) s.kind ∙ ap (body_text link_body (frame_type c)) s.body ∙ body_determined_by c (repeats_request c) refl l m

-- ---- frames

over_limit : (limit size n : ℕ) → 16 ≤ size → 16 ≤ n → nat_lt limit n ≡ true → (judged : Judged) → checked_header limit size n judged ≡ Err OverLimit
over_limit limit size n h l e judged = rw (le-ltb size 16 h, le-ltb n 16 l, e) refl

-- the law about the result for the first frame, whose fields are used below
j : FramesAreJudged link_body
j = in_force.frames_are_judged

module _ (limit : ℕ) (small : limit < 2 ^ 32) (c d : List ℕ) (l : 16 ≤ frame_length c) (m : frame_length c ≤ length c) (s : Shape c d) where
  is_c : BeginsWithFrame c
  is_c = record { has_header = omega (arith, l, m); covers_header = l; within = m }

  is_d : BeginsWithFrame d
  is_d =
      let size = s.size in
      let long = s.long in
      record { has_header = omega (arith, l, long); covers_header = omega (arith, l, size); within = omega (arith, long, size) }

  sized_by : (b : Bool) (text : List ℕ) → (b ≡ true → 20 ≤ length text) → length (text_cleared b text) ≡ length text
  sized_by false text h = refl
  sized_by true text h = length-zeros 12 text (let k = h refl in omega (arith, k))

  judged_ok : (text : List ℕ) (b : Bool) → frame_length c ≤ limit → body_text link_body (frame_type c) (frame_body c) ≡ Ok text → nat_lt limit (16 + length text) ≡ b → first_frame link_body limit d ≡ judged_cleared (first_frame link_body limit c)
  judged_ok text b h e o =
      let determined : body_text link_body (frame_type d) (frame_body d) ≡ Ok (text_cleared (repeats_request c) text) = cleared_body_determined c d l m s ∙ ap (cleared_determined (repeats_request c)) e in
      let size = body_size c l m in
      let error : frame_type c ≡ 2 → 16 + length text ≡ frame_length c =
      λ two. let same : frame_body c ≡ text = error_is (frame_body c) text (sym (ap (λ t. body_text link_body t (frame_body c)) two) ∙ e) in let k = ap length same in omega (arith, k, size, l) in
      let long : repeats_request c ≡ true → 20 ≤ length text =
      λ r. let two : frame_type c ≡ 2 = eqb-true (frame_type c) 2 (and_parts (nat_eq (frame_type c) 2) (nat_le 36 (frame_length c)) r).0 in let k = error two in let n = repeated c r in omega (arith, k, n) in
      let sized : length (text_cleared (repeats_request c) text) ≡ length text = sized_by (repeats_request c) text long in
      let size_determined = s.size in
      let limited : frame_length d ≤ limit = omega (arith, size_determined, h) in
      elim b as (λ b. nat_lt limit (16 + length text) ≡ b → first_frame link_body limit d ≡ judged_cleared (first_frame link_body limit c)) [
        | true ↦ λ o.
            let over : limit < 16 + length text = ltb-true limit (16 + length text) o in
            let over_d : limit < 16 + length (text_cleared (repeats_request c) text) = omega (arith, over, sized) in
            j.over limit d (text_cleared (repeats_request c) text) is_d limited determined over_d ∙ sym (ap judged_cleared (j.over limit c text is_c h e over))
        | false ↦ λ o.
            let fits : 16 + length text ≤ limit = (let k = ltb-false limit (16 + length text) o in omega (arith, k)) in
            let fits_d : 16 + length (text_cleared (repeats_request c) text) ≤ limit = omega (arith, fits, sized) in
            j.ok limit d (text_cleared (repeats_request c) text) is_d limited determined fits_d
            ∙ ap (λ n. Ok (n, frame_text d (text_cleared (repeats_request c) text))) s.size
            ∙ ap (λ t. Ok (frame_length c, t)) (sym (frame_cleared c d text (omega (arith, l, m)) (omega (arith, fits, small)) (fields c d (omega (arith, l, m)) s.header) error long))
            ∙ sym (ap judged_cleared (j.ok limit c text is_c h e fits))
      ] o

  judged_by : (o : Result (List ℕ) FaultKind) → frame_length c ≤ limit → body_text link_body (frame_type c) (frame_body c) ≡ o → first_frame link_body limit d ≡ judged_cleared (first_frame link_body limit c)
  judged_by (Ok text) h e = judged_ok text (nat_lt limit (16 + length text)) h e refl
  judged_by (Err why) h e =
      let size = s.size in
      let determined : body_text link_body (frame_type d) (frame_body d) ≡ Err why = cleared_body_determined c d l m s ∙ ap (cleared_determined (repeats_request c)) e in
      j.body limit d why is_d (omega (arith, size, h)) determined ∙ sym (ap judged_cleared (j.body limit c why is_c h e))

  judged_in : (b : Bool) → nat_lt limit (frame_length c) ≡ b → first_frame link_body limit d ≡ judged_cleared (first_frame link_body limit c)
  judged_in false e = judged_by (body_text link_body (frame_type c) (frame_body c)) (let k = ltb-false limit (frame_length c) e in omega (arith, k)) refl
  judged_in true e =
      let header_c = is_c.has_header in
      let header_d = is_d.has_header in
      let low_d = is_d.covers_header in
      j.header limit d OverLimit (over_limit limit (length d) (frame_length d) header_d low_d (ap (nat_lt limit) s.size ∙ e))
      ∙ sym (ap judged_cleared (j.header limit c OverLimit (over_limit limit (length c) (frame_length c) header_c l e)))

  pub judged : first_frame link_body limit d ≡ judged_cleared (first_frame link_body limit c)
  judged = judged_in (nat_lt limit (frame_length c)) refl
