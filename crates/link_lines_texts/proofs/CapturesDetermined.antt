-- If lines determine frames, they determine captures.
use Rattle.std.proofs.Common.{◌≡◌, ℕ, zero, suc, ◌+◌, ◌-◌, ◌^◌, ◌<◌, ◌≤◌, Bool, true, false, cond, List, [], ◌∷◌, ◌++◌, length, take, drop, Result, Ok, Err, ◌⊎◌, inl, inr, None, refl, sym, ap, subst, ◌∙◌, append_assoc, arith}
use Rattle.std.specs.Prelude.{codes, ⊤}
use Rattle.std.proofs.lemmas.Bool.{cond_both}
use Rattle.std.proofs.lemmas.List.{take_at, drop_at, length-append, length-drop}
use Rattle.netlink_packet_core_grammar.specs.Attributes.{nla_align, zeros}
use Rattle.netlink_packet_core_grammar.specs.Bytes.{AreBytes}
use Rattle.netlink_packet_core_grammar.specs.Frames.{frame_length, frame_type, frame_body, frame_text, begins_with_frame}
use Rattle.netlink_packet_core_grammar.specs.Numbers.{u16_at, le4}
use Rattle.attribute_tables_grammar.specs.Rules.{Rule, Lawful}
use Rattle.link_message_grammar.specs.Body.{link_body, link_peer}
use Rattle.link_message_grammar.proofs.Body.{body_lawful, link_peer_lawful}
use Rattle.link_capture_grammar.specs.declared.fault.FaultKind.{FaultKind}
use Rattle.link_capture_grammar.specs.Bodies.{ruled_text, body_text}
use Rattle.link_capture_grammar.specs.Captures.{Judged, first_frame, texts}
use Rattle.link_capture_grammar.specs.WholeFrames.{whole_within}
use Rattle.link_capture_grammar.proofs.EveryRule.{in_force}
use Rattle.link_capture_grammar.proofs.Frames.{accepted, texts_stop}
use Rattle.link_lines_values.specs.Flags.{named_flags}
use Rattle.link_capture_numbers.specs.Cleared.{numbers_cleared}
use Rattle.link_capture_numbers.specs.Laws.{ClearedCapturesHaveClearedTexts}
use Rattle.link_capture_numbers.proofs.Steps.{stopped}
use Rattle.link_capture_numbers.proofs.ClearedCaptures.{following}
use Rattle.link_lines_texts.specs.Frames.{flag_names, type_text, numbers_text, header_line, body_lines, frame_lines}
use Rattle.link_lines_texts.specs.Links.{labelled}
use Rattle.link_lines_texts.specs.Captures.{Choice, everything, text_lines, without_numbers}
use Rattle.link_lines_texts.specs.Laws.{LinesDetermineMeanings, LinesDetermineTexts, LinesWithoutNumbersDetermineClearedTexts}
use Rattle.link_lines_texts.specs.Determination.{IsCanonicalFrame, StartsFrame, NumbersAreKnown}
use Rattle.link_lines_texts.proofs.FrameUnfolding.{AtStart, at_start, is_at_start}
use Rattle.link_lines_texts.proofs.FramesDetermined.{determined}
use Rattle.link_lines_texts.proofs.NumbersLeftOut.{cleared_shape, numbers_are_left_out}
use Rattle.link_lines_texts.proofs.NumbersKnown.{cleared_bytes, known_first}
use Rattle.netlink_packet_core_grammar.proofs.Bytes.{AreBytes-append, AreBytes-drop, AreBytes-take}
use Rattle.link_capture_grammar.proofs.Normal.{header_size, texted}
use Rattle.link_capture_grammar.specs.declared.fault.FaultKind.TheVariants.{Refused, EmptyPorts, Unfit}

-- ---- bytes

of_number : (n : ℕ) → n < 2 ^ 32 → AreBytes (le4 n)
unfolding le4
of_number n h = (omega arith, (omega arith, (omega arith, (omega (arith, h), tt))))

-- ---- the text of a body has bytes

abbrev HasBytes : Result (List ℕ) FaultKind → Type 0
HasBytes (Ok text) = AreBytes text
HasBytes (Err why) = ⊤

either_bytes : (c : Bool) (x y : Result (List ℕ) FaultKind) → HasBytes x → HasBytes y → HasBytes (cond c x y)
either_bytes c x y h k = cond_both c x y HasBytes (λ e. h) (λ e. k)

ruled_bytes : (r : Rule) → Lawful r → (b : List ℕ) → AreBytes b → HasBytes (ruled_text r b)
ruled_bytes r l b h =
    cond_both (r.accepted b) _ (Err Refused) HasBytes
    (λ a. either_bytes (r.empty_ports b) (Err EmptyPorts) _ tt (cond_both (r.fits b) (Ok (r.canonical b)) (Err Unfit) HasBytes (λ f. l.bytes b a f h) (λ f. tt))) (λ a. tt)

link_lawful : Lawful link_body
link_lawful = body_lawful link_peer link_peer_lawful

body_bytes : (t : ℕ) (b text : List ℕ) → AreBytes b → body_text link_body t b ≡ Ok text → AreBytes text
unfolding body_text
body_bytes t b text h e =
    let link = ruled_bytes link_body link_lawful b h in
    let zeros : AreBytes (0 ∷ 0 ∷ 0 ∷ 0 ∷ []) = (omega arith, (omega arith, (omega arith, (omega arith, tt)))) in
    let all : HasBytes (body_text link_body t b) = search either_bytes depth 7 in
    subst HasBytes e all

-- ---- a frame's bytes without their padding

-- The bytes of the frame that has c's header and this body.
abbrev pub unpadded_frame : List ℕ → List ℕ → List ℕ
unpadded_frame c body = le4 (16 + length body) ++ (take 12 (drop 4 c) ++ body)

four_long : (n : ℕ) → length (le4 n) ≡ 4
unfolding le4
four_long n = refl

-- They are at the start of its text.
pub in_text : (c body : List ℕ) → 16 ≤ length c → take (16 + length body) (frame_text c body) ≡ unpadded_frame c body
unfolding frame_text
in_text c body h =
    let n : ℕ = 16 + length body in
    let header : List ℕ = take 12 (drop 4 c) in
    let pad : List ℕ = zeros (nla_align n - n) in
    let long = four_long n in
    let twelve = header_size c h in
    let inner = length-append header body in
    let whole = length-append (le4 n) (header ++ body) in
    let all : le4 n ++ (header ++ (body ++ pad)) ≡ (le4 n ++ (header ++ body)) ++ pad =
    ap (λ z. le4 n ++ z) (sym (append_assoc header body pad)) ∙ sym (append_assoc (le4 n) (header ++ body) pad) in
    ap (take n) all ∙ take_at (unpadded_frame c body) pad n (omega (arith, long, twelve, inner, whole))

after_frame_length : (c body : List ℕ) → drop 4 (unpadded_frame c body) ≡ take 12 (drop 4 c) ++ body
after_frame_length c body = drop_at (le4 (16 + length body)) (take 12 (drop 4 c) ++ body) 4 (four_long (16 + length body))

canonical_size : (c body : List ℕ) → 16 ≤ length c → length (unpadded_frame c body) ≡ 16 + length body
canonical_size c body h =
    let n : ℕ = 16 + length body in
    let header : List ℕ = take 12 (drop 4 c) in
    omega (arith, four_long n, header_size c h, length-append header body, length-append (le4 n) (header ++ body))

canonical_body : (c body : List ℕ) → 16 ≤ length c → drop 16 (unpadded_frame c body) ≡ body
canonical_body c body h =
    let head : List ℕ = le4 (16 + length body) ++ take 12 (drop 4 c) in
    let both = length-append (le4 (16 + length body)) (take 12 (drop 4 c)) in
    let long : length head ≡ 16 = omega (arith, both, four_long (16 + length body), header_size c h) in
    ap (drop 16) (sym (append_assoc (le4 (16 + length body)) (take 12 (drop 4 c)) body)) ∙ drop_at head body 16 long

unpadded_type : (c body : List ℕ) → 16 ≤ length c → u16_at 4 (unpadded_frame c body) ≡ frame_type c
unfolding u16_at le4
unpadded_type (a ∷ b ∷ c ∷ d ∷ e ∷ f ∷ more) body h = refl
unpadded_type c body h = absurd (omega (arith, h))

-- A frame's text is determined by its header's last twelve bytes and its body.
text_determined : (c d body more : List ℕ) → 16 ≤ length c → 16 ≤ length d →
    drop 4 (unpadded_frame c body) ≡ drop 4 (unpadded_frame d more) → frame_text c body ≡ frame_text d more
unfolding frame_text
text_determined c d body more h k e =
    let x : List ℕ = take 12 (drop 4 c) in
    let y : List ℕ = take 12 (drop 4 d) in
    let both : x ++ body ≡ y ++ more = sym (after_frame_length c body) ∙ e ∙ after_frame_length d more in
    let header : x ≡ y = sym (take_at x body 12 (header_size c h)) ∙ ap (take 12) both ∙ take_at y more 12 (header_size d k) in
    let rest : body ≡ more = sym (drop_at x body 12 (header_size c h)) ∙ ap (drop 12) both ∙ drop_at y more 12 (header_size d k) in
    ap (λ z. le4 (16 + length z) ++ (x ++ (z ++ zeros (nla_align (16 + length z) - (16 + length z))))) rest
    ∙ ap (λ z. le4 (16 + length more) ++ (z ++ (more ++ zeros (nla_align (16 + length more) - (16 + length more))))) header

-- ---- a frame has at least one line

header_some : (a b c more s : List ℕ) → ((a ++ (b ++ (c ++ 10 ∷ []))) ++ more) ++ s ≡ [] → ⊥
header_some [] [] [] more s e = absurd cc
header_some a b c more s e = absurd cc

pub frame_has_lines : (n : Bool) (f s : List ℕ) → frame_lines n f ++ s ≡ [] → ⊥
unfolding frame_lines header_line
frame_has_lines n f s e =
    let t = u16_at 4 f in
    let flags = labelled (codes " flags ") (named_flags (flag_names t) (u16_at 6 f)) in
    header_some (type_text t) flags (numbers_text n f) (body_lines n t (u16_at 6 f) (drop 16 f)) s e

pub no_text_lines : (o : Choice) → text_lines o [] ≡ []
unfolding text_lines whole_within
no_text_lines o = refl

-- ---- everything is shown of every type, with numbers or without them

abbrev pub all_of : Bool → Choice
all_of n = record { numbers = n; only = None }

-- Numbers that aren't shown are cleared.
abbrev Known : Bool → List ℕ → Type 0
Known true x = ⊤
Known false x = (c : List ℕ) × (x ≡ numbers_cleared c)

cleared_first_frame : (c x : List ℕ) (b : Bool) → begins_with_frame c ≡ b → x ≡ numbers_cleared c → begins_with_frame x ≡ true → NumbersAreKnown false (take (frame_length x) x) × Known false (drop (nla_align (frame_length x)) x)
cleared_first_frame c x false h e i = absurd (let bad : true ≡ false = sym i ∙ ap begins_with_frame (e ∙ stopped c h) ∙ h in cc)
cleared_first_frame c x true h e i =
    let n : ℕ = frame_length c in
    let size : frame_length x ≡ n = ap (λ z. frame_length z) e ∙ (cleared_shape c h).size in
    let rest : drop (nla_align (frame_length x)) x ≡ numbers_cleared (drop (nla_align n) c) = rw (size, e) (following c h) in
    (rw (size, e) (known_first c h), (drop (nla_align n) c, rest))

known_by : (n : Bool) (x : List ℕ) → Known n x → begins_with_frame x ≡ true → NumbersAreKnown n (take (frame_length x) x) × Known n (drop (nla_align (frame_length x)) x)
known_by true x k i = (record { own = tt; request = λ two l. tt }, tt)
known_by false x k i = cleared_first_frame k.0 x (begins_with_frame k.0) refl k.1 i

-- ---- the first frame of a capture

-- A frame at the start of a capture's texts, and what follows it.
record Front (n : Bool) (limit : ℕ) (s : List ℕ) : Type 0 where
  pub body : List ℕ
  pub after : List ℕ
  pub header : 16 ≤ length s
  pub own : IsCanonicalFrame (unpadded_frame s body)
  pub text : texts link_body limit s ≡ frame_text s body ++ texts link_body limit after
  pub lines : text_lines (all_of n) (texts link_body limit s) ≡ frame_lines n (unpadded_frame s body) ++ text_lines (all_of n) (texts link_body limit after)
  pub known : Known n (texts link_body limit s) → NumbersAreKnown n (unpadded_frame s body) × Known n (texts link_body limit after)
  pub shorter : length after < length s
  pub bytes : AreBytes after

pub stopped_texts : (limit : ℕ) (s : List ℕ) (kind : FaultKind) → first_frame link_body limit s ≡ Err kind → texts link_body limit s ≡ []
stopped_texts = texts_stop link_body

-- The numbers of a text's first frame are known if those of the text are.
text_known : (n : Bool) (s body rest x : List ℕ) → 16 ≤ length s → AtStart s body rest → x ≡ frame_text s body ++ rest → Known n x → NumbersAreKnown n (unpadded_frame s body) × Known n rest
text_known n s body rest x h first e k =
    let size : frame_length x ≡ 16 + length body = ap (λ z. frame_length z) e ∙ first.determined in
    let r = known_by n x k (ap begins_with_frame e ∙ first.is) in
    let own : take (frame_length x) x ≡ unpadded_frame s body = ap (λ m. take m x) size ∙ ap (take (16 + length body)) e ∙ first.own ∙ in_text s body h in
    let more : drop (nla_align (frame_length x)) x ≡ rest = ap (λ m. drop (nla_align m) x) size ∙ ap (drop (nla_align (16 + length body))) e ∙ first.rest in
    (subst (NumbersAreKnown n) own r.0, subst (Known n) more r.1)

pub unpadded_is_canonical : (c body : List ℕ) → 16 ≤ length c → 16 + length body < 2 ^ 32 → AreBytes c → body_text link_body (frame_type c) (frame_body c) ≡ Ok body → IsCanonicalFrame (unpadded_frame c body)
unpadded_is_canonical c body h small p o =
    let size = canonical_size c body h in
    let given : AreBytes (frame_body c) = AreBytes-take (frame_length c - 16) (drop 16 c) (AreBytes-drop 16 c p) in
    let held = body_bytes (frame_type c) (frame_body c) body given o in
    let again : body_text link_body (frame_type c) body ≡ Ok body = in_force.body_texts_are_canonical (frame_type c) (frame_body c) body o in
    let is = canonical_body c body h in
    record {
      bytes = AreBytes-append (le4 (16 + length body)) (take 12 (drop 4 c) ++ body) (of_number (16 + length body) small)
          (AreBytes-append (take 12 (drop 4 c)) body (AreBytes-take 12 (drop 4 c) (AreBytes-drop 4 c p)) held);
      header = omega (arith, size);
      body = ap (λ t. body_text link_body t (drop 16 (unpadded_frame c body))) (unpadded_type c body h)
          ∙ ap (body_text link_body (frame_type c)) is ∙ again ∙ ap (λ z. Ok z) (sym is);
    }

module _ (n : Bool) where
  fronted : (limit : ℕ) (s : List ℕ) (frame : ℕ × List ℕ) → limit < 2 ^ 32 → AreBytes s → first_frame link_body limit s ≡ Ok frame → Front n limit s
  fronted limit s frame l p e =
      let i = texted link_body limit s frame e in
      let format_of = accepted link_body limit s frame e in
      let after : List ℕ = drop (nla_align frame.0) s in
      let small : 16 + length i.body < 2 ^ 32 = omega (arith, i.fits, l) in
      let header = format_of.header in
      let size = length-drop (nla_align frame.0) s in
      let text : texts link_body limit s ≡ frame_text s i.body ++ texts link_body limit after = in_force.captures_are_counted.next_text limit s frame e ∙ ap (λ z. z ++ texts link_body limit after) i.text_is in
      let first = is_at_start s i.body (texts link_body limit after) header small in
      record {
        body = i.body;
        after = after;
        header = header;
        own = unpadded_is_canonical s i.body header small p i.body_is;
        text = text;
        lines = ap (λ z. text_lines (all_of n) z) text ∙ at_start (all_of n) s i.body (texts link_body limit after) header small
            ∙ ap (λ z. frame_lines n z ++ text_lines (all_of n) (texts link_body limit after)) (in_text s i.body header);
        known = text_known n s i.body (texts link_body limit after) (texts link_body limit s) header first text;
        shorter = omega (arith, size, format_of.low, header);
        bytes = AreBytes-drop (nla_align frame.0) s p;
      }

  first_of_capture : (limit : ℕ) (s : List ℕ) (j : Judged) → limit < 2 ^ 32 → AreBytes s → first_frame link_body limit s ≡ j → (texts link_body limit s ≡ []) ⊎ Front n limit s
  first_of_capture limit s (Err kind) l p e = inl (stopped_texts limit s kind e)
  first_of_capture limit s (Ok frame) l p e = inr (fronted limit s frame l p e)

  first_of : (limit : ℕ) (s : List ℕ) → limit < 2 ^ 32 → AreBytes s → (texts link_body limit s ≡ []) ⊎ Front n limit s
  first_of limit s l p = first_of_capture limit s (first_frame link_body limit s) l p refl

  abbrev shown : List ℕ → List ℕ
  shown t = text_lines (all_of n) t

  module _ (limit : ℕ) (l : limit < 2 ^ 32) where
    -- What follows a frame's lines are a capture's lines.
    starts : (s : List ℕ) → (texts link_body limit s ≡ []) ⊎ Front n limit s → StartsFrame (shown (texts link_body limit s))
    starts s (inl none) = subst StartsFrame (sym (ap shown none ∙ no_text_lines (all_of n))) tt
    starts s (inr a) = subst StartsFrame (sym a.lines) (determined.starts n (unpadded_frame s a.body) (shown (texts link_body limit a.after)))

    rest_starts : (s : List ℕ) → AreBytes s → StartsFrame (shown (texts link_body limit s))
    rest_starts s p = starts s (first_of limit s l p)

    -- The lines of a frame aren't empty.
    one_ended : (s t : List ℕ) → texts link_body limit s ≡ [] → Front n limit t → shown (texts link_body limit s) ≡ shown (texts link_body limit t) → ⊥
    one_ended s t none b e =
        frame_has_lines n (unpadded_frame t b.body) (shown (texts link_body limit b.after)) (sym b.lines ∙ sym e ∙ ap shown none ∙ no_text_lines (all_of n))

    -- The first frames of both are determined, and so are the rests.
    both_first : (s t : List ℕ) (a : Front n limit s) (b : Front n limit t) → Known n (texts link_body limit s) → Known n (texts link_body limit t) → shown (texts link_body limit s) ≡ shown (texts link_body limit t) →
        (Known n (texts link_body limit a.after) → Known n (texts link_body limit b.after) → shown (texts link_body limit a.after) ≡ shown (texts link_body limit b.after) → texts link_body limit a.after ≡ texts link_body limit b.after) → texts link_body limit s ≡ texts link_body limit t
    both_first s t a b h k e rest =
        let x = shown (texts link_body limit a.after) in
        let y = shown (texts link_body limit b.after) in
        let alike = sym a.lines ∙ e ∙ b.lines in
        let p = a.known h in
        let q = b.known k in
        let same = determined.determined n (unpadded_frame s a.body) (unpadded_frame t b.body) x y a.own b.own p.0 q.0 (rest_starts a.after a.bytes) (rest_starts b.after b.bytes) alike in
        a.text ∙ ap (λ z. z ++ texts link_body limit a.after) (text_determined s t a.body b.body a.header b.header same.0)
        ∙ ap (λ z. frame_text t b.body ++ z) (rest p.1 q.1 same.1) ∙ sym b.text

    -- Captures, the first of fewer bytes than m, are determined by their lines.
    abbrev Determined : ℕ → Type 0
    Determined m = (s t : List ℕ) → length s < m → AreBytes s → AreBytes t → Known n (texts link_body limit s) → Known n (texts link_body limit t) → shown (texts link_body limit s) ≡ shown (texts link_body limit t) → texts link_body limit s ≡ texts link_body limit t

    from_first_frame : (m : ℕ) (s t : List ℕ) → Determined m → length s < suc m → (texts link_body limit s ≡ []) ⊎ Front n limit s → (texts link_body limit t ≡ []) ⊎ Front n limit t →
        Known n (texts link_body limit s) → Known n (texts link_body limit t) → shown (texts link_body limit s) ≡ shown (texts link_body limit t) → texts link_body limit s ≡ texts link_body limit t
    from_first_frame m s t rest h (inl a) (inl b) p q e = a ∙ sym b
    from_first_frame m s t rest h (inl a) (inr b) p q e = absurd (one_ended s t a b e)
    from_first_frame m s t rest h (inr a) (inl b) p q e = absurd (one_ended t s b a (sym e))
    from_first_frame m s t rest h (inr a) (inr b) p q e =
        let shorter = a.shorter in
        both_first s t a b p q e (λ x y. rest a.after b.after (omega (arith, h, shorter)) a.bytes b.bytes x y)

    determined_within : (m : ℕ) → Determined m
    determined_within zero s t h a b p q e = absurd (omega (arith, h))
    determined_within (suc m) s t h a b p q e = from_first_frame m s t (determined_within m) h (first_of limit s l a) (first_of limit t l b) p q e

pub captures_determined : LinesDetermineTexts
captures_determined limit s t l p q = (determined_within true limit l (suc (length s)) s t (omega arith) p q tt tt, λ e. ap (λ z. text_lines everything z) e)

-- Lines without numbers determine the texts with the numbers cleared.
pub cleared_texts_determined : ClearedCapturesHaveClearedTexts → LinesWithoutNumbersDetermineClearedTexts
cleared_texts_determined cleared limit s t l p q =
    let x : List ℕ = numbers_cleared s in
    let y : List ℕ = numbers_cleared t in
    let of_x = cleared.texts_cleared limit s l in
    let of_y = cleared.texts_cleared limit t l in
    let shown : List ℕ → List ℕ = λ z. text_lines without_numbers z in
    let one : shown (texts link_body limit x) ≡ shown (texts link_body limit s) = ap shown of_x ∙ numbers_are_left_out (texts link_body limit s) in
    let other : shown (texts link_body limit y) ≡ shown (texts link_body limit t) = ap shown of_y ∙ numbers_are_left_out (texts link_body limit t) in
    let same = determined_within false limit l (suc (length x)) x y (omega arith) (cleared_bytes s p) (cleared_bytes t q) (texts link_body limit s, of_x) (texts link_body limit t, of_y) in
    (λ e. sym of_x ∙ same (one ∙ e ∙ sym other) ∙ of_y, λ e. sym one ∙ ap shown (of_x ∙ e ∙ sym of_y) ∙ other)

pub meanings_determined : LinesDetermineMeanings
meanings_determined limit a b l p q x y =
    let determined = captures_determined limit a b l p q in
    let meanings = in_force.texts_determine_meanings in
    (λ e. meanings.equal_text_implies_same limit a b l x y (determined.0 e), λ s. determined.1 (meanings.same_implies_equal_text limit a b s))
