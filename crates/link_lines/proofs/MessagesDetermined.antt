-- Lines of messages determine the messages' keys, one by one, if those of a message determine its own.
use Rattle.std.proofs.Common.{◌≡◌, ℕ, zero, suc, ◌+◌, ◌^◌, ◌<◌, ◌≤◌, Bool, true, false, List, [], ◌∷◌, ◌++◌, length, take, drop, Ok, Err, ◌⊎◌, inl, inr, refl, sym, ap, subst, ◌∙◌, arith}
use Rattle.std.specs.Prelude.{◌↔◌}
use Rattle.std.proofs.lemmas.List.{length-drop, length-take, take-append-drop}
use Rattle.netlink_packet_core_grammar.specs.Attributes.{nla_align}
use Rattle.netlink_packet_core_grammar.specs.Bytes.{AreBytes}
use Rattle.netlink_packet_core_grammar.specs.Frames.{BeginsWithFrame, frame_length}
use Rattle.netlink_packet_core_grammar.specs.Numbers.{u32_at}
use Rattle.netlink_packet_core_grammar.proofs.Bytes.{AreBytes-drop, AreBytes-take}
use Rattle.netlink_packet_core_grammar.proofs.Numbers.{u32_at-append}
use Rattle.link_message_grammar.specs.Body.{link_body}
use Rattle.link_capture_grammar.specs.Captures.{Judged, first_frame, texts}
use Rattle.link_capture_grammar.specs.Laws.{CapturesUnfoldByFrames, FramesAreIndependent}
use Rattle.link_capture_grammar.specs.declared.fault.FaultKind.{FaultKind}
use Rattle.link_capture_grammar.proofs.Frames.{first_frame_whole}
use Rattle.link_lines_texts.specs.Captures.{everything, text_lines}
use Rattle.link_lines_texts.specs.Determination.{AcceptedFramesAreCanonical, IsCanonicalFrame, StartsFrame, unpadded}
use Rattle.link_lines_texts.specs.Frames.{frame_lines}
use Rattle.link_lines.specs.MessageLaws.{MessagesUnfold}
use Rattle.link_lines.specs.MessageLines.{Selection, message_lines, lines_of_messages}
use Rattle.link_lines.specs.Messages.{Message, Message.Accepted, Message.Faulty, Message.Last, frame_of, is_of_body, messages_at}
use Rattle.link_lines.proofs.FaultyDetermined.{IsFaulty, fault_of_body}

-- ---- one message

-- A text is that of a capture, and is shown as a canonical frame.
pub record IsText (limit : ℕ) (text : List ℕ) : Type 0 where
  pub capture : List ℕ
  pub bytes : AreBytes capture
  pub is : texts link_body limit capture ≡ text
  pub own : List ℕ
  pub canonical : IsCanonicalFrame own
  pub lines : text_lines everything text ≡ frame_lines true own

-- A message has lines.
abbrev pub IsShown : ℕ → Message → Type 0
IsShown limit (Accepted offset text) = IsText limit text
IsShown limit (Faulty offset kind frame) = IsFaulty limit kind frame
IsShown limit (Last offset kind frame) = ⊥

abbrev pub offset_of : Message → ℕ
offset_of (Accepted offset text) = offset
offset_of (Faulty offset kind frame) = offset
offset_of (Last offset kind frame) = offset

-- The lines of a message at an offset below `size` determine its key, and where they end. `keys` are those of messages.
pub record DetermineKeys (limit size : ℕ) (o : Selection) {K : Type 0} (key : Message → K) (keys : List Message → List K) : Type 0 where
  pub none : keys [] ≡ []
  pub last : (x : ℕ) (kind : FaultKind) (f : List ℕ) → keys (Last x kind f ∷ []) ≡ []
  pub first : (m : Message) (more : List Message) → IsShown limit m → keys (m ∷ more) ≡ key m ∷ keys more
  pub some : (m : Message) (s : List ℕ) → IsShown limit m → message_lines o m ++ s ≡ [] → ⊥
  pub starts : (m : Message) (s : List ℕ) → IsShown limit m → StartsFrame (message_lines o m ++ s)
  pub same : (m n : Message) → IsShown limit m → IsShown limit n → key m ≡ key n → message_lines o m ≡ message_lines o n
  pub determined : (m n : Message) (s t : List ℕ) → IsShown limit m → IsShown limit n → offset_of m < size → offset_of n < size → StartsFrame s → StartsFrame t →
      message_lines o m ++ s ≡ message_lines o n ++ t → (key m ≡ key n) × (s ≡ t)

-- ---- the first message

-- The bytes of a message with a fault of its body, taken alone.
frame_alone : (limit : ℕ) (c : List ℕ) (kind : FaultKind) → AreBytes c → first_frame link_body limit c ≡ Err kind → is_of_body kind ≡ true → BeginsWithFrame c → IsFaulty limit kind (frame_of c)
frame_alone limit c kind p e b f =
    let n = frame_length c in
    let own = frame_of c in
    let more = drop n c in
    let size : length own ≡ n = omega (arith, length-take n c, f.within) in
    let whole : own ++ more ≡ c = take-append-drop n c in
    let same : n ≡ frame_length own = ap (u32_at 0) (sym whole) ∙ u32_at-append own more (omega (arith, size, f.covers_header)) in
    record {
      bytes = AreBytes-take n c p;
      size = sym same ∙ sym size;
      judged = sym (first_frame_whole link_body limit own more (omega (arith, size, f.covers_header)) (omega (arith, size, same))) ∙ ap (first_frame link_body limit) whole ∙ e;
      body = b;
    }

module _ (limit size : ℕ) where
  -- The messages of bytes at an offset.
  abbrev all_at : ℕ → List ℕ → List Message
  all_at x c = messages_at true limit x c

  -- Bytes at an offset end within the size.
  abbrev Fits : ℕ → List ℕ → Type 0
  Fits x c = 0 < length c → x + length c ≤ size

  -- A message is shown first.
  record HasFirst (x : ℕ) (c : List ℕ) : Type 0 where
    message : Message
    next : ℕ
    after : List ℕ
    is_shown : IsShown limit message
    low : offset_of message < size
    messages : all_at x c ≡ message ∷ all_at next after
    shorter : length after < length c
    bytes : AreBytes after
    fits : Fits next after

  -- No message is shown, or one is shown first.
  data Begins (x : ℕ) (c : List ℕ) : Type 0 where
    Empty : all_at x c ≡ [] → Begins x c
    Stops : (kind : FaultKind) (f : List ℕ) → all_at x c ≡ Last x kind f ∷ [] → Begins x c
    Shows : HasFirst x c → Begins x c

  module _ (steps : MessagesUnfold) (frames : FramesAreIndependent link_body) (go : CapturesUnfoldByFrames link_body) (canonical : AcceptedFramesAreCanonical) (l : limit < 2 ^ 32) where
    -- What follows the first n bytes fits too.
    rest_fits : (x n : ℕ) (c : List ℕ) → x + length c ≤ size → Fits (x + n) (drop n c)
    rest_fits x n c h some = omega (arith, h, some, length-drop n c)

    accepted_first : (x : ℕ) (c : List ℕ) (frame : ℕ × List ℕ) → AreBytes c → Fits x c → first_frame link_body limit c ≡ Ok frame → HasFirst x c
    accepted_first x c frame p fit e =
        let n = nla_align frame.0 in
        let a = frames.accepted limit c frame e in
        let high : x + length c ≤ size = fit (omega (arith, a.header)) in
        record {
          message = Accepted x frame.1;
          next = x + n;
          after = drop n c;
          is_shown = record {
            capture = take n c;
            bytes = AreBytes-take n c p;
            is = go.one_frame_text limit c frame e;
            own = unpadded frame.1;
            canonical = canonical.canonical limit c frame l p e;
            lines = canonical.lines everything limit c frame l e;
          };
          low = omega (arith, a.header, high);
          messages = steps.accepted true limit x c frame e;
          shorter = omega (arith, length-drop n c, a.header, a.low);
          bytes = AreBytes-drop n c p;
          fits = rest_fits x n c high;
        }

    faulty_first : (x : ℕ) (c : List ℕ) (kind : FaultKind) → AreBytes c → Fits x c → first_frame link_body limit c ≡ Err kind → is_of_body kind ≡ true → HasFirst x c
    faulty_first x c kind p fit e b =
        let n = nla_align (frame_length c) in
        let f = (fault_of_body limit c kind e b).frame in
        let high : x + length c ≤ size = fit (omega (arith, f.has_header)) in
        record {
          message = Faulty x kind (frame_of c);
          next = x + n;
          after = drop n c;
          is_shown = frame_alone limit c kind p e b f;
          low = omega (arith, f.has_header, high);
          messages = steps.faulty limit x c kind e b f;
          shorter = omega (arith, length-drop n c, f.has_header, f.covers_header);
          bytes = AreBytes-drop n c p;
          fits = rest_fits x n c high;
        }

    fault_first : (x b : ℕ) (c : List ℕ) (kind : FaultKind) (t : Bool) → AreBytes (b ∷ c) → Fits x (b ∷ c) → first_frame link_body limit (b ∷ c) ≡ Err kind → is_of_body kind ≡ t → Begins x (b ∷ c)
    fault_first x b c kind true p fit e h = Shows (faulty_first x (b ∷ c) kind p fit e h)
    fault_first x b c kind false p fit e h = Stops kind [] (steps.invalid true limit x b c kind e h)

    judged_first : (x b : ℕ) (c : List ℕ) (j : Judged) → AreBytes (b ∷ c) → Fits x (b ∷ c) → first_frame link_body limit (b ∷ c) ≡ j → Begins x (b ∷ c)
    judged_first x b c (Ok frame) p fit e = Shows (accepted_first x (b ∷ c) frame p fit e)
    judged_first x b c (Err kind) p fit e = fault_first x b c kind (is_of_body kind) p fit e refl

    begins : (x : ℕ) (c : List ℕ) → AreBytes c → Fits x c → Begins x c
    begins x [] p fit = Empty (steps.none true limit x)
    begins x (b ∷ c) p fit = judged_first x b c (first_frame link_body limit (b ∷ c)) p fit refl

    -- ---- one message after the other

    module _ (o : Selection) {K : Type 0} (key : Message → K) (keys : List Message → List K) (law : DetermineKeys limit size o key keys) where
      -- The lines and the keys of the messages of bytes at an offset.
      abbrev lines_at : ℕ → List ℕ → List ℕ
      lines_at x c = lines_of_messages o (all_at x c)

      abbrev keys_at : ℕ → List ℕ → List K
      keys_at x c = keys (all_at x c)

      -- No message is shown.
      record HasNone (x : ℕ) (c : List ℕ) : Type 0 where
        no_lines : lines_at x c ≡ []
        no_keys : keys_at x c ≡ []

      no_message : (x : ℕ) (c : List ℕ) → all_at x c ≡ [] → HasNone x c
      unfolding lines_of_messages
      no_message x c e = record { no_lines = ap (λ ms. lines_of_messages o ms) e; no_keys = ap (λ ms. keys ms) e ∙ law.none }

      last_message : (x : ℕ) (c : List ℕ) (kind : FaultKind) (f : List ℕ) → all_at x c ≡ Last x kind f ∷ [] → HasNone x c
      unfolding lines_of_messages
      last_message x c kind f e = record { no_lines = ap (λ ms. lines_of_messages o ms) e; no_keys = ap (λ ms. keys ms) e ∙ law.last x kind f }

      lines_are : (x : ℕ) (c : List ℕ) (a : HasFirst x c) → lines_at x c ≡ message_lines o a.message ++ lines_at a.next a.after
      unfolding lines_of_messages
      lines_are x c a = ap (λ ms. lines_of_messages o ms) a.messages

      keys_are : (x : ℕ) (c : List ℕ) (a : HasFirst x c) → keys_at x c ≡ key a.message ∷ keys_at a.next a.after
      keys_are x c a = ap (λ ms. keys ms) a.messages ∙ law.first a.message (all_at a.next a.after) a.is_shown

      none_or_first : (x : ℕ) (c : List ℕ) → Begins x c → HasNone x c ⊎ HasFirst x c
      none_or_first x c (Empty e) = inl (no_message x c e)
      none_or_first x c (Stops kind f e) = inl (last_message x c kind f e)
      none_or_first x c (Shows a) = inr a

      starts_by : (x : ℕ) (c : List ℕ) → HasNone x c ⊎ HasFirst x c → StartsFrame (lines_at x c)
      starts_by x c (inl none) = subst StartsFrame (sym none.no_lines) tt
      starts_by x c (inr a) = subst StartsFrame (sym (lines_are x c a)) (law.starts a.message (lines_at a.next a.after) a.is_shown)

      rest_starts : (x : ℕ) (c : List ℕ) → AreBytes c → Fits x c → StartsFrame (lines_at x c)
      rest_starts x c p fit = starts_by x c (none_or_first x c (begins x c p fit))

      -- Lines and keys of two captures are equal together.
      abbrev AreAlike : ℕ → ℕ → List ℕ → List ℕ → Type 0
      AreAlike x y c d = (lines_at x c ≡ lines_at y d) ↔ (keys_at x c ≡ keys_at y d)

      one_first : (x y : ℕ) (c d : List ℕ) → HasNone x c → HasFirst y d → (lines_at x c ≡ lines_at y d → ⊥) × (keys_at x c ≡ keys_at y d → ⊥)
      one_first x y c d none b = (
        λ e. law.some b.message (lines_at b.next b.after) b.is_shown (sym (lines_are y d b) ∙ sym e ∙ none.no_lines),
        λ e. (let same : [] ≡ key b.message ∷ keys_at b.next b.after = sym none.no_keys ∙ e ∙ keys_are y d b in absurd cc),
      )

      both_first : (x y : ℕ) (c d : List ℕ) (a : HasFirst x c) (b : HasFirst y d) → AreAlike a.next b.next a.after b.after → AreAlike x y c d
      both_first x y c d a b rest =
          let s = lines_at a.next a.after in
          let t = lines_at b.next b.after in (
            λ e. (
                let starts = rest_starts a.next a.after a.bytes a.fits in
                let others = rest_starts b.next b.after b.bytes b.fits in
                let same = law.determined a.message b.message s t a.is_shown b.is_shown a.low b.low starts others (sym (lines_are x c a) ∙ e ∙ lines_are y d b) in
                keys_are x c a ∙ ap (λ z. z ∷ keys_at a.next a.after) same.0 ∙ ap (λ z. key b.message ∷ z) (rest.0 same.1) ∙ sym (keys_are y d b)),
            λ e. (
                let same : key a.message ∷ keys_at a.next a.after ≡ key b.message ∷ keys_at b.next b.after = sym (keys_are x c a) ∙ e ∙ keys_are y d b in
                let first : key a.message ≡ key b.message = cc in
                let more : keys_at a.next a.after ≡ keys_at b.next b.after = cc in
                lines_are x c a ∙ ap (λ z. z ++ s) (law.same a.message b.message a.is_shown b.is_shown first) ∙ ap (λ z. message_lines o b.message ++ z) (rest.1 more) ∙ sym (lines_are y d b)),
          )

      -- Captures, the first of fewer bytes than m, are alike.
      abbrev Within : ℕ → Type 0
      Within m = (x y : ℕ) (c d : List ℕ) → length c < m → AreBytes c → AreBytes d → Fits x c → Fits y d → AreAlike x y c d

      by_first : (m x y : ℕ) (c d : List ℕ) → Within m → length c < suc m → HasNone x c ⊎ HasFirst x c → HasNone y d ⊎ HasFirst y d → AreAlike x y c d
      by_first m x y c d rest h (inl a) (inl b) = (λ e. a.no_keys ∙ sym b.no_keys, λ e. a.no_lines ∙ sym b.no_lines)
      by_first m x y c d rest h (inl a) (inr b) = let n = one_first x y c d a b in (λ e. absurd (n.0 e), λ e. absurd (n.1 e))
      by_first m x y c d rest h (inr a) (inl b) = let n = one_first y x d c b a in (λ e. absurd (n.0 (sym e)), λ e. absurd (n.1 (sym e)))
      by_first m x y c d rest h (inr a) (inr b) = both_first x y c d a b (rest a.next b.next a.after b.after (omega (arith, h, a.shorter)) a.bytes b.bytes a.fits b.fits)

      within : (m : ℕ) → Within m
      within zero x y c d h p q i j = absurd (omega (arith, h))
      within (suc m) x y c d h p q i j = by_first m x y c d (within m) h (none_or_first x c (begins x c p i)) (none_or_first y d (begins y d q j))

      -- Captures within the size have the same lines if and only if their messages have the same keys.
      pub keys_determined : (c d : List ℕ) → AreBytes c → AreBytes d → length c ≤ size → length d ≤ size → AreAlike 0 0 c d
      keys_determined c d p q i j = within (suc (length c)) 0 0 c d (omega arith) p q (λ some. omega (arith, i)) (λ some. omega (arith, j))
