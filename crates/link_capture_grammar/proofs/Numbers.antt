-- The numbers of a capture, frame by frame.
use Rattle.std.proofs.Common.{◌≡◌, ℕ, ◌+◌, ◌-◌, ◌*◌, ◌≤◌, List, [], length, take, drop, Ok, Err, refl, ap, ◌∙◌, arith, length-drop}
use Rattle.std.specs.List.{sum_by}
use Rattle.std.proofs.lemmas.List.{length-take}
use Rattle.std.proofs.lemmas.List.Sums.{sum_by-cons}
use Rattle.netlink_packet_core_grammar.specs.Attributes.{nla_align}
use Rattle.netlink_packet_core_grammar.specs.Frames.{frame_length, frame_type, frame_body}
use Rattle.attribute_tables_grammar.specs.Rules.{Rule, Lawful}
use Rattle.link_capture_grammar.specs.declared.fault.FaultKind.{FaultKind}
use Rattle.link_capture_grammar.specs.Bodies.{ruled_text, body_text}
use Rattle.link_capture_grammar.specs.Captures.{first_frame, shifted, split}
use Rattle.link_capture_grammar.specs.Laws.{CapturesAreCounted}
use Rattle.link_capture_grammar.specs.Numbers.{body_attribute_count, frame_attribute_count, attribute_count, frame_count}
use Rattle.link_capture_grammar.proofs.Bodies.{by_type}
use Rattle.link_capture_grammar.proofs.Frames.{accepted, by_frames, no_frames, own_bytes, shifted_add, split_nil, split_step, texts_step, fault_step, fault_nil, texts_nil}
use Rattle.link_capture_grammar.proofs.Normal.{ruled, texted}

module _ (r : Rule) where
  -- A sum over the frames of a capture.
  abbrev pub sum_over : (List ℕ → ℕ) → ℕ → List ℕ → ℕ
  sum_over number limit c = sum_by (λ f. number f.bytes) (split r limit c).frames

  -- If the first frame is accepted, the sum over the rest is that over the bytes after it.
  pub sum_step : (number : List ℕ → ℕ) (limit : ℕ) (c : List ℕ) (frame : ℕ × List ℕ) → first_frame r limit c ≡ Ok frame → sum_over number limit c ≡ number (take frame.0 c) + sum_over number limit (drop (nla_align frame.0) c)
  sum_step number limit c frame h =
      ap (λ s. sum_by (λ f. number f.bytes) s.frames) (split_step r limit c frame h)
      ∙ sum_by-cons (λ f. number f.bytes) (record { bytes = take frame.0 c; text = frame.1 }) (split r limit (drop (nla_align frame.0) c)).frames

  sum_stop : (number : List ℕ → ℕ) (limit : ℕ) (c : List ℕ) (kind : FaultKind) → first_frame r limit c ≡ Err kind → sum_over number limit c ≡ 0
  sum_stop number limit c kind h = ap (sum_by (λ f. number f.bytes)) (no_frames r limit c kind h)

  sum_nil : (number : List ℕ → ℕ) (limit : ℕ) → sum_over number limit [] ≡ 0
  sum_nil number limit = ap (λ s. sum_by (λ f. number f.bytes) s.frames) (split_nil r limit)

  pub count_step : (limit : ℕ) (c : List ℕ) (frame : ℕ × List ℕ) → first_frame r limit c ≡ Ok frame → frame_count r limit c ≡ 1 + frame_count r limit (drop (nla_align frame.0) c)
  count_step limit c frame h = let e = ap (λ s. length s.frames) (split_step r limit c frame h) in omega (arith, e)

  -- the attributes of the first frame are those of the frame's bytes
  pub own_attributes : (limit : ℕ) (c : List ℕ) (frame : ℕ × List ℕ) → first_frame r limit c ≡ Ok frame → frame_attribute_count r (take frame.0 c) ≡ frame_attribute_count r c
  own_attributes limit c frame h =
      let own = own_bytes r limit c frame h in
      ap (λ t. body_attribute_count r t (frame_body (take frame.0 c))) own.type ∙ ap (body_attribute_count r (frame_type c)) own.body

  pub attributes_step : (limit : ℕ) (c : List ℕ) (frame : ℕ × List ℕ) → first_frame r limit c ≡ Ok frame → attribute_count r limit c ≡ frame_attribute_count r c + attribute_count r limit (drop (nla_align frame.0) c)
  attributes_step limit c frame h =
      sum_step (frame_attribute_count r) limit c frame h ∙ ap (λ n. n + attribute_count r limit (drop (nla_align frame.0) c)) (own_attributes limit c frame h)

-- ---- an attribute takes 4 bytes or more

module _ (r : Rule) (lawful : Lawful r) where
  ruled_counted : (b text : List ℕ) → ruled_text r b ≡ Ok text → 4 * r.attributes b ≤ length b
  ruled_counted b text h = lawful.counted b (ruled r b text h).accepted

  body_counted : (t : ℕ) (b text : List ℕ) → body_text r t b ≡ Ok text → 4 * body_attribute_count r t b ≤ length b
  body_counted = by_type r (λ text same attributes. (b x : List ℕ) → text b ≡ Ok x → 4 * attributes b ≤ length b)
      (λ b x h. omega arith) (λ b x h. omega arith) (λ b x h. omega arith) ruled_counted (λ b x h. omega arith)

  frame_counted : (limit : ℕ) (c : List ℕ) (frame : ℕ × List ℕ) → first_frame r limit c ≡ Ok frame → 4 * frame_attribute_count r c ≤ frame.0
  frame_counted limit c frame h =
      let a = accepted r limit c frame h in
      let t = texted r limit c frame h in
      let k = body_counted (frame_type c) (frame_body c) t.body t.body_is in
      let l = length-take (frame_length c - 16) (drop 16 c) in
      omega (arith, k, l, a.is)

  counted : (limit : ℕ) (c : List ℕ) → 4 * attribute_count r limit c ≤ length c
  counted limit =
      by_frames r limit (λ c. 4 * attribute_count r limit c ≤ length c)
      (λ c frame h following.
      let a = accepted r limit c frame h in
      omega (arith, a.low, a.whole, frame_counted limit c frame h, attributes_step r limit c frame h, following, length-drop (nla_align frame.0) c))
      (λ c kind h. omega (arith, sum_stop r (frame_attribute_count r) limit c kind h))

  pub captures_are_counted : CapturesAreCounted r
  captures_are_counted = record {
    next_fault = λ limit start c frame h. ap (shifted start) (fault_step r limit c frame h) ∙ shifted_add start (nla_align frame.0) (start + nla_align frame.0) _ refl;
    next_text = texts_step r;
    next_frames = count_step r;
    next_attributes = attributes_step r;
    no_fault = fault_nil r;
    no_text = texts_nil r;
    no_frames = λ limit. ap (λ s. length s.frames) (split_nil r limit);
    no_attributes = sum_nil r (frame_attribute_count r);
    frame_counted = frame_counted;
    counted = counted;
  }
