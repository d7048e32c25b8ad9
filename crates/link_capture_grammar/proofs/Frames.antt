-- Laws of the definitions of frames.
use Rattle.std.proofs.Common.{◌≡◌, ◌≢◌, ℕ, zero, suc, ◌+◌, ◌-◌, ◌%◌, ◌<◌, ◌≤◌, eqb, ltb, cond, true, false, Bool, Result, Option, min, List, [], ◌∷◌, ◌++◌, length, take, drop, flat_map, Some, None, Ok, Err, refl, sym, ap, subst, ◌∙◌, ◌⊎◌, inl, inr, arith, length-append, length-drop}
use Rattle.std.specs.Prelude.{option_map}
use Rattle.std.proofs.lemmas.List.{take-append-le, drop-append-le, drop_all, drop-drop, drop-take, take-take, length-take, append-nil, drop_at, take-append-drop}
use Rattle.std.proofs.lemmas.List.Concat.{flat_map-append}
use Rattle.std.proofs.lemmas.List.Sums.{sum_by-append, sum_by-cons}
use Rattle.std.proofs.lemmas.Bool.Decides.{nat_tests}
use Rattle.std.proofs.lemmas.Bool.{cond_both, lt-ltb, ltb-false, ltb-true, cases_lt}
use Rattle.netlink_packet_core_grammar.specs.Attributes.{nla_align}
use Rattle.netlink_packet_core_grammar.specs.Numbers.{u16_at, u32_at}
use Rattle.netlink_packet_core_grammar.specs.Frames.{frame_length, frame_type, frame_body, frame_text}
use Rattle.netlink_packet_core_grammar.proofs.Numbers.{u16_at-append, u32_at-append, u16_at-drop_4}
use Rattle.attribute_tables_grammar.specs.Rules.{Rule}
use Rattle.link_capture_grammar.specs.declared.fault.FaultKind.{FaultKind}
use Rattle.link_capture_grammar.specs.declared.fault.FaultKind.TheVariants.{Cut, ShortLength, OverLimit}
use Rattle.link_capture_grammar.specs.declared.fault.CaptureFault.{CaptureFault}
use Rattle.link_capture_grammar.specs.Bodies.{error_text, done_text, ruled_text, body_text}
use Rattle.link_capture_grammar.proofs.Bodies.{by_type}
use Rattle.link_capture_grammar.specs.Captures.{Judged, IsFrameOfLength, CutInBody, Frame, Split, first_frame, judged_text, checked_header, next_split, padded_size, shifted, split, split_within, first_fault, texts, reach_by, reach, IsLegal, IsOfFrames}
use Rattle.link_capture_grammar.specs.declared.fault.FaultKind.TheVariants.{Refused, EmptyPorts, Unfit}

-- the order of the tests
pub guard : {A : Type 0} (b : Bool) (x y z : A) → cond b x y ≡ z → ((b ≡ true) × (x ≡ z)) ⊎ ((b ≡ false) × (y ≡ z))
guard b x y z = elim b as (λ v. cond v x y ≡ z → ((v ≡ true) × (x ≡ z)) ⊎ ((v ≡ false) × (y ≡ z))) [ true ↦ (λ h. inl (refl, h)) | false ↦ (λ h. inr (refl, h)) ]

checked_header_short : (limit size claimed : ℕ) (j : Judged) → size < 16 → checked_header limit size claimed j ≡ Err Cut
checked_header_short limit size claimed j h = rw (lt-ltb size 16 h)

checked_header_more : (limit size more claimed : ℕ) (j k : Judged) → size ≤ more → (claimed ≤ size → k ≡ j) → checked_header limit size claimed j ≢ Err Cut → checked_header limit more claimed k ≡ checked_header limit size claimed j
checked_header_more limit size more claimed j k h e n = grind (arith, nat_tests)

-- what holds of the result of each test holds of the result of all
pub checked_header_by : (limit size claimed : ℕ) (j : Judged) (P : Judged → Type 0) → (size < 16 → P (Err Cut)) → (claimed < 16 → P (Err ShortLength)) → (limit < claimed → P (Err OverLimit)) →
    (16 ≤ size → 16 ≤ claimed → claimed ≤ limit → size < claimed → P (Err Cut)) → (16 ≤ size → 16 ≤ claimed → claimed ≤ limit → claimed ≤ size → P j) → P (checked_header limit size claimed j)
checked_header_by limit size claimed j P short low over cut whole =
    cond_both (ltb size 16) _ _ P (λ a. short (ltb-true _ _ a)) (λ a.
    cond_both (ltb claimed 16) _ _ P (λ b. low (ltb-true _ _ b)) (λ b.
    cond_both (ltb limit claimed) _ _ P (λ d. over (ltb-true _ _ d)) (λ d.
    cond_both (ltb size claimed) _ _ P (λ e. cut (ltb-false _ _ a) (ltb-false _ _ b) (ltb-false _ _ d) (ltb-true _ _ e)) (λ e. whole (ltb-false _ _ a) (ltb-false _ _ b) (ltb-false _ _ d) (ltb-false _ _ e)))))

-- the length of a frame with an accepted body is the one in its header
judged : (limit : ℕ) (c : List ℕ) (r : Result (List ℕ) FaultKind) (frame : ℕ × List ℕ) → judged_text limit c r ≡ Ok frame → frame_length c ≡ frame.0
judged limit c (Err why) frame h = cc
judged limit c (Ok body) frame h =
    elim (guard (ltb limit (16 + length body)) _ _ _ h) [ inl a ↦ cc | inr a ↦ (let e = a.1 in cc) ]

pub frame_header-more : (c d : List ℕ) → 16 ≤ length c → take 12 (drop 4 (c ++ d)) ≡ take 12 (drop 4 c)
frame_header-more c d h = ap (take 12) (drop-append-le 4 c d (omega arith)) ∙ take-append-le 12 (drop 4 c) d (omega (arith, length-drop 4 c))

frame_text-more : (c d body : List ℕ) → 16 ≤ length c → frame_text (c ++ d) body ≡ frame_text c body
unfolding frame_text
frame_text-more c d body h = rw (frame_header-more c d h)

pub frame_type-more : (c d : List ℕ) → 16 ≤ length c → frame_type (c ++ d) ≡ frame_type c
frame_type-more c d h =
    let e : drop 4 (c ++ d) ≡ drop 4 c ++ d = drop-append-le 4 c d (omega arith) in
    u16_at-drop_4 (c ++ d) ∙ ap (u16_at 0) e ∙ u16_at-append (drop 4 c) d (omega (arith, length-drop 4 c)) ∙ sym (u16_at-drop_4 c)

pub frame_body-more : (c d : List ℕ) → 16 ≤ length c → frame_length c ≤ length c → frame_body (c ++ d) ≡ frame_body c
frame_body-more c d h k =
    let e : drop 16 (c ++ d) ≡ drop 16 c ++ d = drop-append-le 16 c d h in
    let n : u32_at 0 (c ++ d) ≡ u32_at 0 c = u32_at-append c d (omega arith) in
    rw (e, n) (take-append-le (u32_at 0 c - 16) (drop 16 c) d (omega (arith, length-drop 16 c)))

judged_text-more : (limit : ℕ) (c d : List ℕ) (r : Result (List ℕ) FaultKind) → 16 ≤ length c → judged_text limit (c ++ d) r ≡ judged_text limit c r
judged_text-more limit c d (Err why) h = refl
judged_text-more limit c d (Ok body) h = rw (u32_at-append c d (omega arith), frame_text-more c d body h)

-- faults at a larger offset
pub shifted_add : (a b n : ℕ) (f : Option CaptureFault) → a + b ≡ n → shifted a (shifted b f) ≡ shifted n f
shifted_add a b n None e = refl
shifted_add a b n (Some f) e = let k : a + (b + f.offset) ≡ n + f.offset = omega arith in ap (λ m. Some (record { kind = f.kind; offset = m })) k

fault_moved : (a b n : ℕ) (kind : Option FaultKind) → n ≡ a + b → option_map (λ k. record { kind = k; offset = n }) kind ≡ shifted a (option_map (λ k. record { kind = k; offset = b }) kind)
fault_moved a b n None e = refl
fault_moved a b n (Some k) e = ap (λ m. Some (record { kind = k; offset = m })) e

-- whether a frame is accepted
pub seen : (j : Judged) → ((frame : ℕ × List ℕ) × (j ≡ Ok frame)) ⊎ ((kind : FaultKind) × (j ≡ Err kind))
seen (Ok frame) = inl (frame, refl)
seen (Err kind) = inr (kind, refl)

-- some bytes have the first frame of others: its header without the length, type and body
pub record HasFrameOf (e c : List ℕ) : Type 0 where
  pub header : take 12 (drop 4 e) ≡ take 12 (drop 4 c)
  pub type : frame_type e ≡ frame_type c
  pub body : frame_body e ≡ frame_body c

pub not_cut : (j : Judged) (frame : ℕ × List ℕ) → j ≡ Ok frame → j ≢ Err Cut
not_cut j frame h e = cc

-- no body is cut
abbrev IsOfBodies : Result (List ℕ) FaultKind → Type 0
IsOfBodies (Ok text) = Unit {0}
IsOfBodies (Err kind) = (kind ≢ Cut) × IsOfFrames kind

error_of_bodies : (b : List ℕ) → IsOfBodies (error_text b)
error_of_bodies b = cond_both (ltb (length b) 4) (Err Refused) (Ok b) IsOfBodies (λ _. ((λ h. cc), tt)) (λ _. tt)

done_of_bodies : (b : List ℕ) → IsOfBodies (done_text b)
done_of_bodies b = cond_both (eqb (length b) 0) (Ok (0 ∷ 0 ∷ 0 ∷ 0 ∷ [])) (error_text b) IsOfBodies (λ _. tt) (λ _. error_of_bodies b)

ruled_of_bodies : (r : Rule) (b : List ℕ) → IsOfBodies (ruled_text r b)
ruled_of_bodies r b =
    cond_both (r.accepted b) _ (Err Refused) IsOfBodies
    (λ _. cond_both (r.empty_ports b) (Err EmptyPorts) _ IsOfBodies (λ _. ((λ h. cc), tt)) (λ _. cond_both (r.fits b) (Ok (r.canonical b)) (Err Unfit) IsOfBodies (λ _. tt) (λ _. ((λ h. cc), tt))))
    (λ _. ((λ h. cc), tt))

body_of_bodies : (r : Rule) (t : ℕ) (b : List ℕ) → IsOfBodies (body_text r t b)
body_of_bodies r = by_type r (λ text same attributes. (b : List ℕ) → IsOfBodies (text b)) (λ b. tt) error_of_bodies done_of_bodies (ruled_of_bodies r) (λ b. tt)

judged_not_cut : (limit : ℕ) (c : List ℕ) (r : Result (List ℕ) FaultKind) → IsOfBodies r → judged_text limit c r ≢ Err Cut
judged_not_cut limit c (Err kind) o h = o.0 (let e : kind ≡ Cut = cc in e)
judged_not_cut limit c (Ok body) o h = grind (arith, nat_tests)

-- a fault, if there is one, is of a kind that a frame can have
abbrev HasFrameKind : Judged → Type 0
HasFrameKind (Ok frame) = Unit {0}
HasFrameKind (Err kind) = IsOfFrames kind

judged_kinds : (limit : ℕ) (c : List ℕ) (r : Result (List ℕ) FaultKind) → IsOfBodies r → HasFrameKind (judged_text limit c r)
judged_kinds limit c (Err kind) o = o.1
judged_kinds limit c (Ok body) o = cond_both (ltb limit (16 + length body)) _ _ HasFrameKind (λ a. tt) (λ a. tt)

module _ (r : Rule) where
  -- the properties of an accepted frame
  pub accepted : (limit : ℕ) (c : List ℕ) (frame : ℕ × List ℕ) → first_frame r limit c ≡ Ok frame → IsFrameOfLength limit c frame.0
  unfolding first_frame
  accepted limit c frame h =
      checked_header_by limit (length c) (frame_length c) _ (λ o. o ≡ Ok frame → IsFrameOfLength limit c frame.0) (λ a e. cc) (λ a e. cc) (λ a e. cc) (λ a b d e f. cc)
      (λ header low high whole e.
      let g = judged limit c (body_text r (frame_type c) (frame_body c)) frame e in
      record { header = header; low = omega (arith, g, low); high = omega (arith, g, high); whole = omega (arith, g, whole); is = g }) h

  -- the result for a frame whose bytes are there
  unfoldable pub judgement : ℕ → List ℕ → Judged
  judgement limit c = judged_text limit c (body_text r (frame_type c) (frame_body c))

  pub first_frame_is : (limit : ℕ) (c : List ℕ) → first_frame r limit c ≡ checked_header limit (length c) (frame_length c) (judgement limit c)
  unfolding first_frame judgement
  first_frame_is limit c = refl

  judgement-more : (limit : ℕ) (c d : List ℕ) → 16 ≤ length c → frame_length c ≤ length c → judgement limit (c ++ d) ≡ judgement limit c
  unfolding judgement
  judgement-more limit c d h k =
      ap (λ t. judged_text limit (c ++ d) (body_text r t (frame_body (c ++ d)))) (frame_type-more c d h)
      ∙ ap (λ b. judged_text limit (c ++ d) (body_text r (frame_type c) b)) (frame_body-more c d h k)
      ∙ judged_text-more limit c d (body_text r (frame_type c) (frame_body c)) h

  -- The result for a string, unless its frame is cut, is the same with any bytes appended.
  pub first_frame-more : (limit : ℕ) (c d : List ℕ) → first_frame r limit c ≢ Err Cut → first_frame r limit (c ++ d) ≡ first_frame r limit c
  first_frame-more limit c d h =
      elim (cases_lt (length c) 16) [
        | inl a ↦ absurd (h (first_frame_is limit c ∙ checked_header_short limit (length c) (frame_length c) (judgement limit c) a))
        | inr a ↦
            first_frame_is limit (c ++ d)
            ∙ ap (λ n. checked_header limit (length (c ++ d)) n (judgement limit (c ++ d))) (u32_at-append c d (omega arith))
            ∙ checked_header_more limit (length c) (length (c ++ d)) (frame_length c) (judgement limit c) (judgement limit (c ++ d)) (omega (arith, length-append c d)) (judgement-more limit c d a) (λ e. h (first_frame_is limit c ∙ e))
            ∙ sym (first_frame_is limit c)
      ]

  judgement_not_cut : (limit : ℕ) (c : List ℕ) → judgement limit c ≢ Err Cut
  unfolding judgement
  judgement_not_cut limit c h = judged_not_cut limit c (body_text r (frame_type c) (frame_body c)) (body_of_bodies r (frame_type c) (frame_body c)) h

  -- A cut frame has fewer bytes than a header, or than the length in its header.
  pub cut_cases : (limit : ℕ) (c : List ℕ) → first_frame r limit c ≡ Err Cut → (length c < 16) ⊎ CutInBody limit c
  cut_cases limit c h =
      checked_header_by limit (length c) (frame_length c) (judgement limit c) (λ o. o ≡ Err Cut → (length c < 16) ⊎ CutInBody limit c) (λ a e. inl a) (λ a e. cc) (λ a e. cc)
      (λ header low high short e. inr (record { header = header; low = low; high = high; short = short })) (λ a b d e f. absurd (judgement_not_cut limit c f)) (sym (first_frame_is limit c) ∙ h)

  -- The result for a whole frame is the same with any bytes appended.
  pub first_frame_whole : (limit : ℕ) (c d : List ℕ) → 16 ≤ length c → frame_length c ≤ length c → first_frame r limit (c ++ d) ≡ first_frame r limit c
  first_frame_whole limit c d h k =
      first_frame-more limit c d (λ e. elim (cut_cases limit c e) [ inl a ↦ absurd (omega arith) | inr a ↦ absurd (omega (arith, a.short)) ])

  -- An accepted frame is the same in all strings that have its bytes.
  pub first_frame-take : (limit : ℕ) (c : List ℕ) (n : ℕ) (frame : ℕ × List ℕ) → first_frame r limit c ≡ Ok frame → frame.0 ≤ n → first_frame r limit (take n c) ≡ Ok frame
  first_frame-take limit c n frame h k =
      let a = accepted limit c frame h in
      let e : List ℕ = take n c in
      let more : List ℕ = drop n c in
      let whole : e ++ more ≡ c = take-append-drop n c in
      let size : length e ≡ min n (length c) = length-take n c in
      let claimed : frame_length c ≡ frame_length e = ap (u32_at 0) (sym whole) ∙ u32_at-append e more (omega arith) in
      sym (first_frame_whole limit e more (omega arith) (omega (arith, a.is, claimed))) ∙ ap (first_frame r limit) whole ∙ h

  -- The bytes of an accepted frame have its header, type and body.
  pub own_bytes : (limit : ℕ) (c : List ℕ) (frame : ℕ × List ℕ) → first_frame r limit c ≡ Ok frame → HasFrameOf (take frame.0 c) c
  own_bytes limit c frame h =
      let a = accepted limit c frame h in
      let e : List ℕ = take frame.0 c in
      let more : List ℕ = drop frame.0 c in
      let whole : e ++ more ≡ c = take-append-drop frame.0 c in
      let size : length e ≡ min frame.0 (length c) = length-take frame.0 c in
      let claimed : frame_length c ≡ frame_length e = ap (u32_at 0) (sym whole) ∙ u32_at-append e more (omega (arith, size, a.low, a.whole)) in
      let headed : 16 ≤ length e = omega (arith, size, a.low, a.whole) in
      let inside : frame_length e ≤ length e = omega (arith, size, a.is, a.whole, claimed) in
      record {
        header = sym (frame_header-more e more headed) ∙ ap (λ x. take 12 (drop 4 x)) whole;
        type = sym (frame_type-more e more headed) ∙ ap frame_type whole;
        body = sym (frame_body-more e more headed inside) ∙ ap frame_body whole;
      }

  -- ---- one frame after the other

  -- More frames than there are bytes change nothing.
  enough : (limit n m : ℕ) (c : List ℕ) → length c ≤ n → length c ≤ m → split_within r limit n c ≡ split_within r limit m c
  unfolding split_within
  enough limit n m [] l k = refl
  enough limit zero m (b ∷ c) l k = absurd (omega arith)
  enough limit (suc n) zero (b ∷ c) l k = absurd (omega arith)
  enough limit (suc n) (suc m) (b ∷ c) l k =
      elim (seen (first_frame r limit (b ∷ c))) [
        | inl w ↦
            let a = accepted limit (b ∷ c) w.0 w.1 in
            let size = length-drop (nla_align w.0.0) (b ∷ c) in
            ap (λ j. next_split j (b ∷ c) (split_within r limit n)) w.1
            ∙ ap (λ x. next_split (Ok w.0) (b ∷ c) (λ _. x)) (enough limit n m (drop (nla_align w.0.0) (b ∷ c)) (omega (arith, a.low, size, l)) (omega (arith, a.low, size, k)))
            ∙ sym (ap (λ j. next_split j (b ∷ c) (split_within r limit m)) w.1)
        | inr w ↦ ap (λ j. next_split j (b ∷ c) (split_within r limit n)) w.1 ∙ sym (ap (λ j. next_split j (b ∷ c) (split_within r limit m)) w.1)
      ]

  -- The frames of an accepted frame and of the bytes after it.
  pub split_step : (limit : ℕ) (c : List ℕ) (frame : ℕ × List ℕ) → first_frame r limit c ≡ Ok frame → split r limit c ≡ next_split (Ok frame) c (split r limit)
  unfolding split_within
  split_step limit [] frame h = let a = accepted limit [] frame h in absurd (omega (arith, a.header))
  split_step limit (b ∷ c) frame h =
      let a = accepted limit (b ∷ c) frame h in
      let rest = drop (nla_align frame.0) (b ∷ c) in
      ap (λ j. next_split j (b ∷ c) (split_within r limit (length c))) h
      ∙ ap (λ x. next_split (Ok frame) (b ∷ c) (λ _. x)) (enough limit (length c) (length rest) rest (omega (arith, a.low, length-drop (nla_align frame.0) (b ∷ c))) (omega arith))

  pub split_stop : (limit : ℕ) (c : List ℕ) (kind : FaultKind) → 0 < length c → first_frame r limit c ≡ Err kind → split r limit c ≡ record { frames = []; fault = Some kind }
  unfolding split_within
  split_stop limit [] kind p h = absurd (omega arith)
  split_stop limit (b ∷ c) kind p h = ap (λ j. next_split j (b ∷ c) (split_within r limit (length c))) h

  pub split_nil : (limit : ℕ) → split r limit [] ≡ record { frames = []; fault = None }
  unfolding split_within
  split_nil limit = refl

  -- Without an accepted first frame there is no frame.
  pub no_frames : (limit : ℕ) (c : List ℕ) (kind : FaultKind) → first_frame r limit c ≡ Err kind → (split r limit c).frames ≡ []
  no_frames limit [] kind h = ap (λ s. s.frames) (split_nil limit)
  no_frames limit (b ∷ c) kind h = ap (λ s. s.frames) (split_stop limit (b ∷ c) kind (omega arith) h)

  -- an empty capture has no first fault and no texts
  pub fault_nil : (limit : ℕ) → first_fault r limit [] ≡ None
  fault_nil limit = ap (λ s. option_map (λ k. record { kind = k; offset = padded_size s.frames }) s.fault) (split_nil limit)

  pub texts_nil : (limit : ℕ) → texts r limit [] ≡ []
  texts_nil limit = ap (λ s. flat_map (λ f. f.text) s.frames) (split_nil limit)

  -- The offset that the whole frames reach, including the full padding of the last one: the first fault is there, or
  -- would be if more bytes came.
  abbrev pub end_offset : ℕ → List ℕ → ℕ
  end_offset limit c = padded_size (split r limit c).frames

  pub end_step : (limit : ℕ) (c : List ℕ) (frame : ℕ × List ℕ) → first_frame r limit c ≡ Ok frame → end_offset limit c ≡ nla_align frame.0 + end_offset limit (drop (nla_align frame.0) c)
  end_step limit c frame h =
      let a = accepted limit c frame h in
      let rest = (split r limit (drop (nla_align frame.0) c)).frames in
      let first : Frame = record { bytes = take frame.0 c; text = frame.1 } in
      let size : length (take frame.0 c) ≡ frame.0 = omega (arith, length-take frame.0 c, a.whole) in
      ap (λ s. padded_size s.frames) (split_step limit c frame h) ∙ sum_by-cons (λ f. nla_align (length f.bytes)) first rest ∙ ap (λ n. nla_align n + padded_size rest) size

  pub end_stop : (limit : ℕ) (c : List ℕ) (kind : FaultKind) → first_frame r limit c ≡ Err kind → end_offset limit c ≡ 0
  end_stop limit c kind h = ap padded_size (no_frames limit c kind h)

  pub end_nil : (limit : ℕ) → end_offset limit [] ≡ 0
  end_nil limit = ap (λ s. padded_size s.frames) (split_nil limit)

  -- If the first frame is accepted, the frames of the remaining bytes are the remaining frames.
  pub texts_step : (limit : ℕ) (c : List ℕ) (frame : ℕ × List ℕ) → first_frame r limit c ≡ Ok frame → texts r limit c ≡ frame.1 ++ texts r limit (drop (nla_align frame.0) c)
  texts_step limit c frame h = ap (λ s. flat_map (λ f. f.text) s.frames) (split_step limit c frame h)

  pub fault_step : (limit : ℕ) (c : List ℕ) (frame : ℕ × List ℕ) → first_frame r limit c ≡ Ok frame → first_fault r limit c ≡ shifted (nla_align frame.0) (first_fault r limit (drop (nla_align frame.0) c))
  fault_step limit c frame h =
      let rest = split r limit (drop (nla_align frame.0) c) in
      ap (option_map (λ k. record { kind = k; offset = end_offset limit c })) (ap (λ s. s.fault) (split_step limit c frame h))
      ∙ fault_moved (nla_align frame.0) (padded_size rest.frames) (end_offset limit c) rest.fault (end_step limit c frame h)

  -- The first frame has a fault.
  pub fault_stop : (limit : ℕ) (c : List ℕ) (kind : FaultKind) → 0 < length c → first_frame r limit c ≡ Err kind → first_fault r limit c ≡ Some (record { kind = kind; offset = 0 })
  fault_stop limit c kind p h = ap (λ s. option_map (λ k. record { kind = k; offset = padded_size s.frames }) s.fault) (split_stop limit c kind p h)

  pub texts_stop : (limit : ℕ) (c : List ℕ) (kind : FaultKind) → first_frame r limit c ≡ Err kind → texts r limit c ≡ []
  texts_stop limit c kind h = ap (flat_map (λ f. f.text)) (no_frames limit c kind h)

  -- Induction over frames: a property of all captures holds if it holds of the rest whenever it holds of a capture that
  -- begins with an accepted frame, and of every other capture.
  pub by_frames : (limit : ℕ) (P : List ℕ → Type 0) → ((c : List ℕ) (frame : ℕ × List ℕ) → first_frame r limit c ≡ Ok frame → P (drop (nla_align frame.0) c) → P c) →
      ((c : List ℕ) (kind : FaultKind) → first_frame r limit c ≡ Err kind → P c) → (c : List ℕ) → P c
  by_frames limit P more stop c = go (length c) c (omega arith)
    where
      go : (n : ℕ) (c : List ℕ) → length c ≤ n → P c
      go zero c l =
          elim (seen (first_frame r limit c)) [
            | inl w ↦ absurd (omega (arith, (accepted limit c w.0 w.1).header, l))
            | inr w ↦ stop c w.0 w.1
          ]
      go (suc n) c l =
          elim (seen (first_frame r limit c)) [
            | inl w ↦ let a = accepted limit c w.0 w.1 in more c w.0 w.1 (go n (drop (nla_align w.0.0) c) (omega (arith, a.header, a.low, l, length-drop (nla_align w.0.0) c)))
            | inr w ↦ stop c w.0 w.1
          ]

  -- The same, where the padding of the last frame may be missing: then nothing follows the frame.
  by_whole_frames : (limit : ℕ) (P : List ℕ → Type 0) →
      ((c : List ℕ) (frame : ℕ × List ℕ) → first_frame r limit c ≡ Ok frame → nla_align frame.0 ≤ length c → P (drop (nla_align frame.0) c) → P c) →
      ((c : List ℕ) (frame : ℕ × List ℕ) → first_frame r limit c ≡ Ok frame → length c < nla_align frame.0 → drop (nla_align frame.0) c ≡ [] → P c) →
      ((c : List ℕ) (kind : FaultKind) → first_frame r limit c ≡ Err kind → P c) → (c : List ℕ) → P c
  by_whole_frames limit P more last stop =
      by_frames limit P
      (λ c frame h following.
      elim (cases_lt (length c) (nla_align frame.0)) [
        | inl l ↦ last c frame h l (drop_all (nla_align frame.0) c (omega (arith, l)))
        | inr l ↦ more c frame h (omega (arith, l)) following
      ])
      stop

  -- an accepted first frame stays accepted if bytes are appended
  frame-more : (limit : ℕ) (s p : List ℕ) (frame : ℕ × List ℕ) → first_frame r limit s ≡ Ok frame → first_frame r limit (s ++ p) ≡ Ok frame
  frame-more limit s p frame h = first_frame-more limit s p (not_cut (first_frame r limit s) frame h) ∙ h

  -- frames before those of other bytes
  abbrev before : List Frame → Split → Split
  before frames s = record { frames = frames ++ s.frames; fault = s.fault }

  -- the first frame of some bytes
  abbrev frame_in : List ℕ → ℕ × List ℕ → Frame
  frame_in s frame = record { bytes = take frame.0 s; text = frame.1 }

  first_frame_of : (limit : ℕ) (s q : List ℕ) (frame : ℕ × List ℕ) → first_frame r limit s ≡ Ok frame → frame_in (s ++ q) frame ≡ frame_in s frame
  first_frame_of limit s q frame h = ap (λ b. record { bytes = b; text = frame.1 }) (take-append-le frame.0 s q (accepted limit s frame h).whole)

  -- The frames of a longer string: those of its prefix, and those of the bytes after the prefix's whole frames.
  split-append : (limit : ℕ) (q s : List ℕ) → split r limit (s ++ q) ≡ before (split r limit s).frames (split r limit (drop (end_offset limit s) (s ++ q)))
  split-append limit q =
      by_whole_frames limit (λ s. split r limit (s ++ q) ≡ before (split r limit s).frames (split r limit (drop (end_offset limit s) (s ++ q))))
      (λ s frame h whole more.
      let n = nla_align frame.0 in
      let rest = drop n s in
      let there : drop n (s ++ q) ≡ rest ++ q = drop-append-le n s q whole in
      let first = first_frame_of limit s q frame h in
      let far : drop (end_offset limit rest) (rest ++ q) ≡ drop (end_offset limit s) (s ++ q) =
      ap (drop (end_offset limit rest)) (sym there) ∙ drop-drop (end_offset limit rest) n (s ++ q) ∙ ap (λ k. drop k (s ++ q)) (sym (end_step limit s frame h)) in
      split_step limit (s ++ q) frame (frame-more limit s q frame h)
      ∙ ap (λ f. before (f ∷ []) (split r limit (drop n (s ++ q)))) first
      ∙ ap (λ x. before (frame_in s frame ∷ []) (split r limit x)) there
      ∙ ap (before (frame_in s frame ∷ [])) more
      ∙ ap (λ x. before (frame_in s frame ∷ (split r limit rest).frames) (split r limit x)) far
      ∙ ap (λ x. before x.frames (split r limit (drop (end_offset limit s) (s ++ q)))) (sym (split_step limit s frame h)))
      (λ s frame h short none.
      let n = nla_align frame.0 in
      let end : n ≡ end_offset limit s = omega (arith, end_step limit s frame h, ap (end_offset limit) none, end_nil limit) in
      let alone : split r limit s ≡ record { frames = frame_in s frame ∷ []; fault = None } =
      split_step limit s frame h ∙ ap (λ x. before (frame_in s frame ∷ []) (split r limit x)) none ∙ ap (before (frame_in s frame ∷ [])) (split_nil limit) in
      split_step limit (s ++ q) frame (frame-more limit s q frame h)
      ∙ ap (λ f. before (f ∷ []) (split r limit (drop n (s ++ q)))) (first_frame_of limit s q frame h)
      ∙ ap (λ k. before (frame_in s frame ∷ []) (split r limit (drop k (s ++ q)))) end
      ∙ ap (λ x. before x.frames (split r limit (drop (end_offset limit s) (s ++ q)))) (sym alone))
      (λ s kind h.
      ap (λ k. before [] (split r limit (drop k (s ++ q)))) (sym (end_stop limit s kind h))
      ∙ ap (λ x. before x (split r limit (drop (end_offset limit s) (s ++ q)))) (sym (no_frames limit s kind h)))

  -- The texts of a longer string: those of its prefix, and those of the bytes after the prefix's whole frames.
  pub texts-append : (limit : ℕ) (s p : List ℕ) → texts r limit (s ++ p) ≡ texts r limit s ++ texts r limit (drop (end_offset limit s) (s ++ p))
  texts-append limit s p = ap (λ x. flat_map (λ f. f.text) x.frames) (split-append limit p s) ∙ flat_map-append (λ f. f.text) (split r limit s).frames _

  -- The first fault of a longer string is that of the bytes after the prefix's whole frames.
  pub fault-append : (limit : ℕ) (s p : List ℕ) → first_fault r limit (s ++ p) ≡ shifted (end_offset limit s) (first_fault r limit (drop (end_offset limit s) (s ++ p)))
  fault-append limit s p =
      let rest = split r limit (drop (end_offset limit s) (s ++ p)) in
      ap (λ x. option_map (λ k. record { kind = k; offset = padded_size x.frames }) x.fault) (split-append limit p s)
      ∙ fault_moved (end_offset limit s) (padded_size rest.frames) _ rest.fault (sum_by-append (λ f. nla_align (length f.bytes)) (split r limit s).frames rest.frames)

  -- a frame with these bytes before those of other bytes
  abbrev listed : List ℕ → ℕ × List ℕ → Split → Split
  listed b frame rest = record { frames = record { bytes = b; text = frame.1 } ∷ rest.frames; fault = rest.fault }

  kept : (limit : ℕ) (s q : List ℕ) (frame : ℕ × List ℕ) → first_frame r limit s ≡ Ok frame → frame.0 ≤ end_offset limit s → take frame.0 (take (end_offset limit s) (s ++ q)) ≡ take frame.0 s
  kept limit s q frame h l = take-take frame.0 (end_offset limit s) (s ++ q) l ∙ take-append-le frame.0 s q (accepted limit s frame h).whole

  -- The bytes up to the offset have the same frames, and no fault.
  split-base : (limit : ℕ) (q s : List ℕ) → split r limit (take (end_offset limit s) (s ++ q)) ≡ record { frames = (split r limit s).frames; fault = None }
  split-base limit q =
      by_whole_frames limit (λ s. split r limit (take (end_offset limit s) (s ++ q)) ≡ record { frames = (split r limit s).frames; fault = None })
      (λ s frame h whole more.
      let n = nla_align frame.0 in
      let rest = drop n s in
      let end = end_step limit s frame h in
      let x = take (end_offset limit s) (s ++ q) in
      let k = first_frame-take limit (s ++ q) (end_offset limit s) frame (frame-more limit s q frame h) (omega (arith, end)) in
      let tail : drop n x ≡ take (end_offset limit rest) (rest ++ q) =
      ap (λ m. drop n (take m (s ++ q))) end ∙ drop-take n (end_offset limit rest) (s ++ q) ∙ ap (take (end_offset limit rest)) (drop-append-le n s q whole) in
      split_step limit x frame k ∙ ap (λ b. listed b frame (split r limit (drop n x))) (kept limit s q frame h (omega (arith, end)))
      ∙ ap (λ y. listed (take frame.0 s) frame (split r limit y)) tail
      ∙ ap (listed (take frame.0 s) frame) more
      ∙ ap (λ y. record { frames = y.frames; fault = None }) (sym (split_step limit s frame h)))
      (λ s frame h short none.
      let n = nla_align frame.0 in
      let end : end_offset limit s ≡ n = omega (arith, end_step limit s frame h, ap (end_offset limit) none, end_nil limit) in
      let x = take (end_offset limit s) (s ++ q) in
      let k = first_frame-take limit (s ++ q) (end_offset limit s) frame (frame-more limit s q frame h) (omega (arith, end)) in
      let tail : drop n x ≡ [] = drop_all n x (omega (arith, length-take (end_offset limit s) (s ++ q), end)) in
      split_step limit x frame k ∙ ap (λ b. listed b frame (split r limit (drop n x))) (kept limit s q frame h (omega (arith, end)))
      ∙ ap (λ y. listed (take frame.0 s) frame (split r limit y)) tail
      ∙ ap (listed (take frame.0 s) frame) (split_nil limit)
      ∙ ap (λ y. record { frames = record { bytes = take frame.0 s; text = frame.1 } ∷ y.frames; fault = None }) (sym (ap (split r limit) none ∙ split_nil limit))
      ∙ ap (λ y. record { frames = y.frames; fault = None }) (sym (split_step limit s frame h)))
      (λ s kind h.
      ap (λ k. split r limit (take k (s ++ q))) (end_stop limit s kind h) ∙ split_nil limit
      ∙ ap (λ f. record { frames = f; fault = None }) (sym (no_frames limit s kind h)))

  pub base_legal : (limit : ℕ) (s q : List ℕ) → first_fault r limit (take (end_offset limit s) (s ++ q)) ≡ None
  base_legal limit s q = ap (λ x. option_map (λ k. record { kind = k; offset = padded_size x.frames }) x.fault) (split-base limit q s)

  pub base_texts : (limit : ℕ) (s q : List ℕ) → texts r limit (take (end_offset limit s) (s ++ q)) ≡ texts r limit s
  base_texts limit s q = ap (λ x. flat_map (λ f. f.text) x.frames) (split-base limit q s)

  -- the offset is a multiple of 4, and at most 3 past the end
  pub offset_fits : (limit : ℕ) (c : List ℕ) → (end_offset limit c % 4 ≡ 0) × (end_offset limit c ≤ length c + 3)
  offset_fits limit =
      by_whole_frames limit (λ c. (end_offset limit c % 4 ≡ 0) × (end_offset limit c ≤ length c + 3))
      (λ c frame h whole more.
      let end = end_step limit c frame h in
      let size = length-drop (nla_align frame.0) c in
      (omega (arith, end, more.0), omega (arith, end, more.1, size, whole)))
      (λ c frame h short none.
      let end : end_offset limit c ≡ nla_align frame.0 = omega (arith, end_step limit c frame h, ap (end_offset limit) none, end_nil limit) in
      (omega (arith, end), omega (arith, end, (accepted limit c frame h).whole)))
      (λ c kind h. let end = end_stop limit c kind h in (omega (arith, end), omega (arith, end)))

  -- At the offset the bytes end, or there is a fault.
  pub record Stuck (limit : ℕ) (s : List ℕ) (p : ℕ) (kind : FaultKind) : Type 0 where
    pub inside : p < length s
    pub first_frame_is : first_frame r limit (drop p s) ≡ Err kind
    pub fault_is : first_fault r limit s ≡ Some (record { kind = kind; offset = p })

  pub record Over (limit : ℕ) (s : List ℕ) (p : ℕ) : Type 0 where
    pub outside : length s ≤ p
    pub fault_is : first_fault r limit s ≡ None

  abbrev pub Stops : ℕ → List ℕ → ℕ → Type 0
  Stops limit s p = Over limit s p ⊎ ((kind : FaultKind) × Stuck limit s p kind)

  stops_further : (limit : ℕ) (c : List ℕ) (frame : ℕ × List ℕ) → first_frame r limit c ≡ Ok frame → (p : ℕ) → Stops limit (drop (nla_align frame.0) c) p → Stops limit c (nla_align frame.0 + p)
  stops_further limit c frame h p (inl w) =
      inl (record { outside = omega (arith, w.outside, length-drop (nla_align frame.0) c); fault_is = fault_step limit c frame h ∙ ap (shifted (nla_align frame.0)) w.fault_is })
  stops_further limit c frame h p (inr w) =
      let n = nla_align frame.0 in
      let there : drop p (drop n c) ≡ drop (n + p) c = drop-drop p n c in
      inr (
        w.0,
        record {
          inside = omega (arith, w.1.inside, length-drop n c);
          first_frame_is = ap (first_frame r limit) (sym there) ∙ w.1.first_frame_is;
          fault_is = fault_step limit c frame h ∙ ap (shifted n) w.1.fault_is;
        },
      )

  pub stops : (limit : ℕ) (s : List ℕ) → Stops limit s (end_offset limit s)
  stops limit =
      by_frames limit (λ c. Stops limit c (end_offset limit c))
      (λ c frame h more. subst (Stops limit c) (sym (end_step limit c frame h)) (stops_further limit c frame h _ more))
      (λ c kind h. subst (Stops limit c) (sym (end_stop limit c kind h)) (stopped c kind h))
    where
      stopped : (c : List ℕ) (kind : FaultKind) → first_frame r limit c ≡ Err kind → Stops limit c 0
      stopped [] kind h = inl (record { outside = omega arith; fault_is = fault_nil limit })
      stopped (b ∷ c) kind h = inr (kind, record { inside = omega arith; first_frame_is = h; fault_is = fault_stop limit (b ∷ c) kind (omega arith) h })

  -- A legal string reaches to the next multiple of 4.
  pub offset_legal : (limit : ℕ) (c : List ℕ) → IsLegal r limit c → end_offset limit c ≡ nla_align (length c)
  offset_legal limit c h =
      let fits = offset_fits limit c in
      elim (stops limit c) [
        | inl w ↦ omega (arith, w.outside, fits.0, fits.1)
        | inr w ↦ (let f = w.1.fault_is in cc)
      ]

  -- The offset is that of the first fault, or the next multiple of 4.
  pub reach_offset : (limit : ℕ) (c : List ℕ) → end_offset limit c ≡ reach r limit c
  reach_offset limit c =
      elim (stops limit c) [
        | inl w ↦ offset_legal limit c w.fault_is ∙ ap (reach_by (length c)) (sym w.fault_is)
        | inr w ↦ ap (reach_by (length c)) (sym w.1.fault_is)
      ]

  -- Bytes that follow a legal string of a multiple of 4 bytes are judged independently.
  pub joined_texts : (limit : ℕ) (a b : List ℕ) → IsLegal r limit a → length a % 4 ≡ 0 → texts r limit (a ++ b) ≡ texts r limit a ++ texts r limit b
  joined_texts limit a b h m =
      let e : end_offset limit a ≡ length a = offset_legal limit a h ∙ omega arith in
      texts-append limit a b ∙ ap (λ n. texts r limit a ++ texts r limit (drop n (a ++ b))) e ∙ ap (λ c. texts r limit a ++ texts r limit c) (drop_at a b (length a) refl)

  pub joined_fault : (limit : ℕ) (a b : List ℕ) → IsLegal r limit a → length a % 4 ≡ 0 → first_fault r limit (a ++ b) ≡ shifted (length a) (first_fault r limit b)
  joined_fault limit a b h m =
      let e : end_offset limit a ≡ length a = offset_legal limit a h ∙ omega arith in
      fault-append limit a b ∙ ap (λ n. shifted n (first_fault r limit (drop n (a ++ b)))) e ∙ ap (λ c. shifted (length a) (first_fault r limit c)) (drop_at a b (length a) refl)

  -- an accepted frame with its padding, or a part of that, and nothing else
  pub one_fault : (limit : ℕ) (c : List ℕ) (frame : ℕ × List ℕ) → first_frame r limit c ≡ Ok frame → first_fault r limit (take (nla_align frame.0) c) ≡ None
  one_fault limit c frame h =
      let n : ℕ = nla_align frame.0 in
      fault_step limit (take n c) frame (first_frame-take limit c n frame h (omega arith))
      ∙ ap (λ x. shifted n (first_fault r limit x)) (drop_all n (take n c) (omega (arith, length-take n c)))
      ∙ ap (shifted n) (fault_nil limit)

  pub one_frame_text : (limit : ℕ) (c : List ℕ) (frame : ℕ × List ℕ) → first_frame r limit c ≡ Ok frame → texts r limit (take (nla_align frame.0) c) ≡ frame.1
  one_frame_text limit c frame h =
      let n : ℕ = nla_align frame.0 in
      texts_step limit (take n c) frame (first_frame-take limit c n frame h (omega arith))
      ∙ ap (λ x. frame.1 ++ texts r limit x) (drop_all n (take n c) (omega (arith, length-take n c)))
      ∙ ap (λ t. frame.1 ++ t) (texts_nil limit)
      ∙ append-nil frame.1

  -- the first fault is at the end of the whole frames
  pub fault_offset : (limit : ℕ) (c : List ℕ) (fault : CaptureFault) → first_fault r limit c ≡ Some fault → end_offset limit c ≡ fault.offset
  fault_offset limit c fault h =
      elim (stops limit c) [
        | inl w ↦ (let f = w.fault_is in cc)
        | inr w ↦ (let f = w.1.fault_is in cc)
      ]

  pub fault_inside : (limit : ℕ) (c : List ℕ) (fault : CaptureFault) → first_fault r limit c ≡ Some fault → (fault.offset < length c) × (fault.offset % 4 ≡ 0)
  fault_inside limit c fault h =
      let at = fault_offset limit c fault h in
      elim (stops limit c) [
        | inl w ↦ (let f = w.fault_is in cc)
        | inr w ↦ (omega (arith, w.1.inside, at), omega (arith, (offset_fits limit c).0, at))
      ]

  first_frame_kinds : (limit : ℕ) (c : List ℕ) (kind : FaultKind) → first_frame r limit c ≡ Err kind → IsOfFrames kind
  unfolding judgement
  first_frame_kinds limit c kind h =
      subst HasFrameKind (sym (first_frame_is limit c) ∙ h) (checked_header_by limit (length c) (frame_length c) (judgement limit c) HasFrameKind (λ a. tt) (λ a. tt) (λ a. tt) (λ a b d e. tt)
      (λ a b d e. judged_kinds limit c (body_text r (frame_type c) (frame_body c)) (body_of_bodies r (frame_type c) (frame_body c))))

  pub fault_kinds : (limit : ℕ) (c : List ℕ) (fault : CaptureFault) → first_fault r limit c ≡ Some fault → IsOfFrames fault.kind
  fault_kinds limit c fault h =
      elim (stops limit c) [
        | inl w ↦ (let f = w.fault_is in absurd (cc))
        | inr w ↦ (let f = w.1.fault_is in let e : w.0 ≡ fault.kind = cc in subst IsOfFrames e (first_frame_kinds limit _ w.0 w.1.first_frame_is))
      ]

  -- a fault of a prefix, other than a cut frame, is that of the whole
  pub fault_more : (limit : ℕ) (a b : List ℕ) (fault : CaptureFault) → first_fault r limit a ≡ Some fault → fault.kind ≢ Cut → first_fault r limit (a ++ b) ≡ Some fault
  fault_more limit a b fault h n =
      elim (stops limit a) [
        | inl w ↦ (let f = w.fault_is in absurd (cc))
        | inr w ↦
            let at : ℕ = end_offset limit a in
            let f = w.1.fault_is in
            let k : w.0 ≡ fault.kind = cc in
            let o : at ≡ fault.offset = cc in
            let d = drop at a in
            let kept : first_frame r limit (d ++ b) ≡ Err w.0 = first_frame-more limit d b (λ e. n (let g = w.1.first_frame_is in cc)) ∙ w.1.first_frame_is in
            let z : at + 0 ≡ fault.offset = omega (arith, o) in
            fault-append limit a b
            ∙ ap (λ x. shifted at (first_fault r limit x)) (drop-append-le at a b (omega (arith, w.1.inside)))
            ∙ ap (shifted at) (fault_stop limit (d ++ b) w.0 (omega (arith, length-append d b, length-drop at a, w.1.inside)) kept)
            ∙ ap (λ x. Some (record { kind = w.0; offset = x })) z
            ∙ ap (λ x. Some (record { kind = x; offset = fault.offset })) k
      ]
