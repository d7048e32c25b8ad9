-- The first frame is judged by its header, its body and its text.
use Rattle.std.proofs.Common.{◌≡◌, ℕ, ◌+◌, ◌<◌, ◌≤◌, List, length, Ok, Err, cond, refl, ap, ◌∙◌}
use Rattle.std.proofs.lemmas.Bool.{le-ltb, lt-ltb}
use Rattle.netlink_packet_core_grammar.specs.Frames.{BeginsWithFrame, frame_length, frame_type, frame_body, frame_text}
use Rattle.attribute_tables_grammar.specs.Rules.{Rule}
use Rattle.link_capture_grammar.specs.declared.fault.FaultKind.{FaultKind}
use Rattle.link_capture_grammar.specs.declared.fault.FaultKind.TheVariants.{TextOverLimit}
use Rattle.link_capture_grammar.specs.Bodies.{body_text}
use Rattle.link_capture_grammar.specs.Captures.{Judged, judged_text, checked_header, first_frame}
use Rattle.link_capture_grammar.specs.Laws.{FramesAreJudged}
use Rattle.link_capture_grammar.proofs.Normal.{frame_text_size}

module _ (r : Rule) where
  -- a fault of the header
  header_fault : (limit : ℕ) (c : List ℕ) (kind : FaultKind) → ((j : Judged) → checked_header limit (length c) (frame_length c) j ≡ Err kind) → first_frame r limit c ≡ Err kind
  unfolding first_frame
  header_fault limit c kind h = h (judged_text limit c (body_text r (frame_type c) (frame_body c)))

  whole : (limit : ℕ) (c : List ℕ) → BeginsWithFrame c → frame_length c ≤ limit → first_frame r limit c ≡ judged_text limit c (body_text r (frame_type c) (frame_body c))
  unfolding first_frame
  whole limit c f l = rw (le-ltb (length c) 16 f.has_header, le-ltb (frame_length c) 16 f.covers_header, le-ltb limit (frame_length c) l, le-ltb (length c) (frame_length c) f.within) refl

  -- a fault of the body
  body_fault : (limit : ℕ) (c : List ℕ) (kind : FaultKind) → BeginsWithFrame c → frame_length c ≤ limit → body_text r (frame_type c) (frame_body c) ≡ Err kind → first_frame r limit c ≡ Err kind
  body_fault limit c kind f l h = whole limit c f l ∙ ap (judged_text limit c) h

  -- a text over the limit
  text_fault : (limit : ℕ) (c text : List ℕ) → BeginsWithFrame c → frame_length c ≤ limit → body_text r (frame_type c) (frame_body c) ≡ Ok text → limit < 16 + length text → first_frame r limit c ≡ Err TextOverLimit
  text_fault limit c text f l h o =
      whole limit c f l ∙ ap (judged_text limit c) h ∙ ap (λ b. cond b (Err TextOverLimit) (Ok (frame_length c, frame_text c text))) (lt-ltb limit (16 + length text) o)

  -- no fault
  judged_ok : (limit : ℕ) (c text : List ℕ) → BeginsWithFrame c → frame_length c ≤ limit → body_text r (frame_type c) (frame_body c) ≡ Ok text → 16 + length text ≤ limit → first_frame r limit c ≡ Ok (frame_length c, frame_text c text)
  judged_ok limit c text f l h o =
      whole limit c f l ∙ ap (judged_text limit c) h ∙ ap (λ b. cond b (Err TextOverLimit) (Ok (frame_length c, frame_text c text))) (le-ltb limit (16 + length text) o)

  pub frames_are_judged : FramesAreJudged r
  frames_are_judged = record { header = header_fault; body = body_fault; over = text_fault; ok = judged_ok; size = frame_text_size }
