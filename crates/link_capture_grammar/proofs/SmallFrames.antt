-- A small frame has a text that fits and is within the limit.
use Rattle.std.proofs.Common.{◌≡◌, ℕ, ◌+◌, ◌-◌, ◌≤◌, true, eqb, ltb, Result, Ok, Err, List, [], ◌∷◌, length, drop, subst, arith, length-drop}
use Rattle.std.proofs.lemmas.Bool.{cond_both, le-ltb}
use Rattle.std.proofs.lemmas.List.{length-take}
use Rattle.netlink_packet_core_grammar.specs.Frames.{frame_length, frame_type, frame_body, frame_text}
use Rattle.attribute_tables_grammar.specs.Rules.{Rule}
use Rattle.attribute_tables_grammar.specs.Peers.{RuleOfPeers, LawfulPeer}
use Rattle.link_message_grammar.specs.Body.{body_rule}
use Rattle.link_message_grammar.proofs.Sizes.{bodies_grow_by_attributes, short_bodies_fit}
use Rattle.link_capture_grammar.specs.declared.fault.FaultKind.TheVariants.{Unfit, TextOverLimit}
use Rattle.link_capture_grammar.specs.Bodies.{error_text, done_text, ruled_text, body_text}
use Rattle.link_capture_grammar.specs.Captures.{Judged, judged_text, first_frame}
use Rattle.link_capture_grammar.specs.Laws.{SmallFramesFit}
use Rattle.link_capture_grammar.proofs.Bodies.{by_type}
use Rattle.link_capture_grammar.proofs.Frames.{checked_header_by}
use Rattle.link_capture_grammar.specs.declared.fault.FaultKind.{FaultKind}
use Rattle.link_capture_grammar.specs.declared.fault.FaultKind.TheVariants.{Refused}

-- a frame isn't refused for a length inside its text, nor for that of its text
IsNotTooLong : Judged → Type 0
IsNotTooLong (Ok frame) = Unit {0}
IsNotTooLong (Err Unfit) = ⊥
IsNotTooLong (Err TextOverLimit) = ⊥
IsNotTooLong (Err kind) = Unit {0}

-- ---- bodies of at most 867 bytes, as frames of at most 883 have them

-- such a body fits, and its text has at most 16 + 77 * 851 bytes
IsShort : Result (List ℕ) FaultKind → Type 0
IsShort (Ok text) = length text ≤ 65543
IsShort (Err kind) = IsNotTooLong (Err kind)

error_short : (b : List ℕ) → length b ≤ 867 → IsShort (error_text b)
unfolding IsShort IsNotTooLong
error_short b l = cond_both (ltb (length b) 4) (Err Refused) (Ok b) IsShort (λ _. tt) (λ _. omega (arith, l))

done_short : (b : List ℕ) → length b ≤ 867 → IsShort (done_text b)
unfolding IsShort IsNotTooLong
done_short b l = cond_both (eqb (length b) 0) (Ok (0 ∷ 0 ∷ 0 ∷ 0 ∷ [])) (error_text b) IsShort (λ _. omega arith) (λ _. error_short b l)

-- a rule under which such bodies fit and are short
record IsShortRule (r : Rule) : Type 0 where
  fits : (b : List ℕ) → length b ≤ 867 → r.accepted b ≡ true → r.fits b ≡ true
  size : (b : List ℕ) → length b ≤ 867 → r.accepted b ≡ true → length (r.canonical b) ≤ 65543

module _ (r : Rule) (short : IsShortRule r) where
  ruled_short : (b : List ℕ) → length b ≤ 867 → IsShort (ruled_text r b)
  unfolding IsShort IsNotTooLong
  ruled_short b l =
      cond_both (r.accepted b) _ _ IsShort
      (λ a. cond_both (r.empty_ports b) _ _ IsShort (λ _. tt) (λ _. cond_both (r.fits b) (Ok (r.canonical b)) (Err Unfit) IsShort (λ _. short.size b l a) (λ f. let t = short.fits b l a in cc)))
      (λ _. tt)

  body_short : (t : ℕ) (b : List ℕ) → length b ≤ 867 → IsShort (body_text r t b)
  unfolding IsShort IsNotTooLong
  body_short = by_type r (λ text same attributes. (b : List ℕ) → length b ≤ 867 → IsShort (text b)) (λ b l. omega arith) error_short done_short ruled_short (λ b l. omega (arith, l))

-- ---- frames

judged_short : (limit : ℕ) (c : List ℕ) → 65559 ≤ limit → (o : Result (List ℕ) FaultKind) → IsShort o → IsNotTooLong (judged_text limit c o)
unfolding IsShort IsNotTooLong
judged_short limit c m (Ok text) s =
    cond_both (ltb limit (16 + length text)) (Err TextOverLimit) (Ok (frame_length c, frame_text c text)) IsNotTooLong
    (λ over. let within = le-ltb limit (16 + length text) (omega (arith, m, s)) in cc)
    (λ _. tt)
judged_short limit c m (Err kind) s = s

frame_short : (r : Rule) → IsShortRule r → (limit : ℕ) (c : List ℕ) → 65559 ≤ limit → frame_length c ≤ 883 → IsNotTooLong (first_frame r limit c)
unfolding first_frame IsNotTooLong
frame_short r short limit c m l =
    let size = length-take (frame_length c - 16) (drop 16 c) in
    checked_header_by limit (length c) (frame_length c) _ IsNotTooLong (λ a. tt) (λ a. tt) (λ a. tt) (λ a b d e. tt) (λ a b d e. judged_short limit c m (body_text r (frame_type c) (frame_body c)) (body_short r short (frame_type c) (frame_body c) (omega (arith, size, l))))

-- ---- link bodies

bodies_are_short : (p : RuleOfPeers) → LawfulPeer p → IsShortRule (body_rule p)
bodies_are_short p lawful = record { fits = λ b l a. short_bodies_fit p b a (let s = size b l a in omega (arith, s)); size = size }
  where
    size : (b : List ℕ) → length b ≤ 867 → (body_rule p).accepted b ≡ true → length ((body_rule p).canonical b) ≤ 65543
    size b l a = let s = bodies_grow_by_attributes p lawful b a in let d = length-drop 16 b in omega (arith, s, d, l)

pub small_frames_fit : SmallFramesFit
unfolding IsNotTooLong
small_frames_fit p lawful limit c m l =
    let h = frame_short (body_rule p) (bodies_are_short p lawful) limit c m l in
    (λ e. subst IsNotTooLong e h, λ e. subst IsNotTooLong e h)
