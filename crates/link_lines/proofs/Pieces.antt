-- The messages of a capture in pieces.
use Rattle.std.proofs.Common.{◌≡◌, ◌&&◌, ℕ, zero, suc, ◌+◌, ◌%◌, ◌<◌, ◌≤◌, Bool, true, false, List, [], ◌∷◌, ◌++◌, length, take, drop, None, Ok, Err, inl, inr, refl, sym, ap, ◌∙◌, arith}
use Rattle.std.proofs.lemmas.List.{drop_all, drop-append-le, length-append, length-drop, length-take}
use Rattle.netlink_packet_core_grammar.specs.Attributes.{nla_align}
use Rattle.netlink_packet_core_grammar.specs.Frames.{BeginsWithFrame, frame_length}
use Rattle.link_message_grammar.specs.Body.{link_body}
use Rattle.link_capture_grammar.proofs.Frames.{seen}
use Rattle.link_capture_grammar.specs.Captures.{first_frame}
use Rattle.link_capture_grammar.specs.Laws.{FramesAreIndependent}
use Rattle.link_capture_grammar.specs.declared.fault.FaultKind.{FaultKind}
use Rattle.link_lines.specs.MessageLaws.{MessagesUnfold}
use Rattle.link_lines.specs.MessageLines.{lines_of_messages}
use Rattle.link_lines.specs.Messages.{Message, Message.Accepted, Message.Faulty, Message.Last, frame_of, is_of_body, last_fault, messages_at}
use Rattle.link_lines.specs.Pieces.{GoesOn, PiecesAreJoined, first_message, goes_past}
use Rattle.link_lines.proofs.FaultyDetermined.{fault_of_body}
use Rattle.link_lines.proofs.Passing.{lines_more, open_more}
use Rattle.link_lines.proofs.Walk.{accepted_frame, front_of, unchanged_by_more}

-- ---- the first message alone

aligned : (n : ℕ) → n ≤ nla_align n
aligned n = omega arith

nothing_after : MessagesUnfold → (k : Bool) (limit offset n : ℕ) (c : List ℕ) → messages_at k limit offset (drop n (take n c)) ≡ []
nothing_after go k limit offset n c =
    ap (messages_at k limit offset) (drop_all n (take n c) (omega (arith, length-take n c))) ∙ go.none k limit offset

accepted_alone : FramesAreIndependent link_body → MessagesUnfold → (k : Bool) (limit offset : ℕ) (c : List ℕ) (frame : ℕ × List ℕ) → first_frame link_body limit c ≡ Ok frame → messages_at k limit offset (first_message c) ≡ Accepted offset frame.1 ∷ []
accepted_alone frames go k limit offset c frame e =
    let n = nla_align (frame_length c) in
    let is : frame_length c ≡ frame.0 = (frames.accepted limit c frame e).is in
    let front = front_of limit n c (accepted_frame frames limit c frame e) (aligned (frame_length c)) in
    go.accepted k limit offset (take n c) frame (sym front.unchanged.judged ∙ e)
    ∙ ap (λ m. Accepted offset frame.1 ∷ messages_at k limit (offset + nla_align m) (drop (nla_align m) (take n c))) (sym is)
    ∙ ap (λ ms. Accepted offset frame.1 ∷ ms) (nothing_after go k limit (offset + n) n c)

-- Showing goes past faults of bodies if such messages are shown.
past_by : (of_body k : Bool) → (of_body && k) ≡ true → (of_body ≡ true) × (k ≡ true)
past_by true true e = (refl, refl)
past_by true false e = absurd cc
past_by false k e = absurd cc

faulty_first : MessagesUnfold → (limit offset : ℕ) (c : List ℕ) (kind : FaultKind) → first_frame link_body limit c ≡ Err kind → is_of_body kind ≡ true → messages_at true limit offset (first_message c) ≡ Faulty offset kind (frame_of c) ∷ []
faulty_first go limit offset c kind e body =
    let n = nla_align (frame_length c) in
    let front = front_of limit n c (fault_of_body limit c kind e body).frame (aligned (frame_length c)) in
    go.faulty limit offset (take n c) kind (sym front.unchanged.judged ∙ e) body front.begins_with_frame
    ∙ ap (λ m. Faulty offset kind (frame_of (take n c)) ∷ messages_at true limit (offset + nla_align m) (drop (nla_align m) (take n c))) (sym front.unchanged.size)
    ∙ ap (λ ms. Faulty offset kind (frame_of (take n c)) ∷ ms) (nothing_after go true limit (offset + n) n c)
    ∙ ap (λ frame. Faulty offset kind frame ∷ []) (sym front.unchanged.frame)

faulty_alone : MessagesUnfold → (k : Bool) (limit offset : ℕ) (c : List ℕ) (kind : FaultKind) → first_frame link_body limit c ≡ Err kind → goes_past k kind ≡ true → messages_at k limit offset (first_message c) ≡ Faulty offset kind (frame_of c) ∷ []
faulty_alone go k limit offset c kind e past =
    let goes = past_by (is_of_body kind) k past in
    ap (λ y. messages_at y limit offset (first_message c)) goes.1 ∙ faulty_first go limit offset c kind e goes.0

stopped_by : MessagesUnfold → (k : Bool) (limit offset : ℕ) (c : List ℕ) (kind : FaultKind) (of_body : Bool) → is_of_body kind ≡ of_body → 0 < length c → first_frame link_body limit c ≡ Err kind → (of_body && k) ≡ false → (frame : List ℕ) × (messages_at k limit offset c ≡ Last offset kind frame ∷ [])
stopped_by go k limit offset [] kind of_body b l e s = absurd (omega (arith, l))
stopped_by go k limit offset (x ∷ c) kind false b l e s = ([], go.invalid k limit offset x c kind e b)
stopped_by go k limit offset (x ∷ c) kind true b l e s =
    (frame_of (x ∷ c), ap (λ y. messages_at y limit offset (x ∷ c)) s ∙ go.stopped limit offset (x ∷ c) kind e b (fault_of_body limit (x ∷ c) kind e b).frame)

has_header : (limit : ℕ) (c : List ℕ) (kind : FaultKind) → first_frame link_body limit c ≡ Err kind → is_of_body kind ≡ true → 16 ≤ length (first_message c)
has_header limit c kind e body =
    let f = (fault_of_body limit c kind e body).frame in
    omega (arith, length-take (nla_align (frame_length c)) c, f.covers_header, f.has_header)

-- ---- bytes that follow others

-- A last message isn't one at which showing goes on.
not_last : (offset : ℕ) (kind : FaultKind) (frame : List ℕ) (ms : List Message) → ms ≡ Last offset kind frame ∷ [] → last_fault ms ≡ None → ⊥
not_last offset kind frame ms e h = let f = sym (ap last_fault e) ∙ h in cc

module _ (frames : FramesAreIndependent link_body) (go : MessagesUnfold) (k : Bool) (limit : ℕ) (b : List ℕ) where
  -- The messages of a are followed by those of b.
  abbrev Follows : ℕ → List ℕ → Type 0
  Follows offset a = GoesOn k limit offset a → length a % 4 ≡ 0 → messages_at k limit offset (a ++ b) ≡ messages_at k limit offset a ++ messages_at k limit (offset + length a) b

  -- One message comes before those that follow.
  message_follows : (offset n : ℕ) (a : List ℕ) (m : Message) → n % 4 ≡ 0 → n ≤ length a → messages_at k limit offset a ≡ m ∷ messages_at k limit (offset + n) (drop n a)
      → messages_at k limit offset (a ++ b) ≡ m ∷ messages_at k limit (offset + n) (drop n (a ++ b)) → (last_fault (messages_at k limit offset a) ≡ None → last_fault (messages_at k limit (offset + n) (drop n a)) ≡ None)
      → Follows (offset + n) (drop n a) → Follows offset a
  message_follows offset n a m whole inside one both on more goes_on padded =
      let rest = drop n a in
      let size = length-drop n a in
      let end : (offset + n) + length rest ≡ offset + length a = omega (arith, size, inside) in
      both ∙ ap (λ x. m ∷ messages_at k limit (offset + n) x) (drop-append-le n a b inside)
      ∙ ap (λ ms. m ∷ ms) (more (on goes_on) (omega (arith, size, padded, whole, inside)))
      ∙ ap (λ at. m ∷ (messages_at k limit (offset + n) rest ++ messages_at k limit at b)) end
      ∙ sym (ap (λ ms. ms ++ messages_at k limit (offset + length a) b) one)

  accepted_follows : (offset : ℕ) (a : List ℕ) (frame : ℕ × List ℕ) → first_frame link_body limit a ≡ Ok frame → length a % 4 ≡ 0 → Follows (offset + nla_align frame.0) (drop (nla_align frame.0) a) → Follows offset a
  accepted_follows offset a frame e padded =
      let accepted = frames.accepted limit a frame e in
      let one = go.accepted k limit offset a frame e in
      message_follows offset (nla_align frame.0) a (Accepted offset frame.1) (omega arith) (omega (arith, accepted.whole, padded)) one
      (go.accepted k limit offset (a ++ b) frame ((unchanged_by_more limit a b (accepted_frame frames limit a frame e)).judged ∙ e)) (λ h. sym (ap last_fault one) ∙ h)

  faulty_follows : (offset : ℕ) (a : List ℕ) (kind : FaultKind) → first_frame link_body limit a ≡ Err kind → is_of_body kind ≡ true → k ≡ true → length a % 4 ≡ 0 → Follows (offset + nla_align (frame_length a)) (drop (nla_align (frame_length a)) a) → Follows offset a
  faulty_follows offset a kind e body goes padded =
      let f = (fault_of_body limit a kind e body).frame in
      let u = unchanged_by_more limit a b f in
      let n = nla_align (frame_length a) in
      let whole : BeginsWithFrame (a ++ b) = record {
        has_header = omega (arith, f.has_header, length-append a b);
        covers_header = omega (arith, f.covers_header, u.size);
        within = omega (arith, f.within, u.size, length-append a b);
      } in
      let one = faulty_at offset a kind e body f goes in
      let both : messages_at k limit offset (a ++ b) ≡ Faulty offset kind (frame_of a) ∷ messages_at k limit (offset + n) (drop n (a ++ b)) =
      faulty_at offset (a ++ b) kind (u.judged ∙ e) body whole goes
      ∙ ap (λ frame. Faulty offset kind frame ∷ messages_at k limit (offset + nla_align (frame_length (a ++ b))) (drop (nla_align (frame_length (a ++ b))) (a ++ b))) u.frame
      ∙ ap (λ m. Faulty offset kind (frame_of a) ∷ messages_at k limit (offset + nla_align m) (drop (nla_align m) (a ++ b))) u.size in
      message_follows offset n a (Faulty offset kind (frame_of a)) (omega arith) (omega (arith, f.within, padded)) one both (λ h. sym (ap last_fault one) ∙ h)
    where
      faulty_at : (offset : ℕ) (c : List ℕ) (kind : FaultKind) → first_frame link_body limit c ≡ Err kind → is_of_body kind ≡ true → BeginsWithFrame c → k ≡ true → messages_at k limit offset c ≡ Faulty offset kind (frame_of c) ∷ messages_at k limit (offset + nla_align (frame_length c)) (drop (nla_align (frame_length c)) c)
      faulty_at offset c kind e body f goes =
          ap (λ y. messages_at y limit offset c) goes ∙ go.faulty limit offset c kind e body f
          ∙ ap (λ y. Faulty offset kind (frame_of c) ∷ messages_at y limit (offset + nla_align (frame_length c)) (drop (nla_align (frame_length c)) c)) (sym goes)

  -- Showing goes on after a fault only if it is one of a message's body, and if such messages are shown.
  fault_follows : (offset : ℕ) (a : List ℕ) (kind : FaultKind) → 0 < length a → first_frame link_body limit a ≡ Err kind → length a % 4 ≡ 0 → ((offset n : ℕ) → 16 ≤ n → Follows offset (drop (nla_align n) a)) → Follows offset a
  fault_follows offset a kind l e padded more goes_on =
      elim (goes_past k kind) as (λ x. goes_past k kind ≡ x → length a % 4 ≡ 0 → messages_at k limit offset (a ++ b) ≡ messages_at k limit offset a ++ messages_at k limit (offset + length a) b) [
        | true ↦
            (λ h.
            let goes = past_by (is_of_body kind) k h in
            faulty_follows offset a kind e goes.0 goes.1 padded (more (offset + nla_align (frame_length a)) (frame_length a) (fault_of_body limit a kind e goes.0).frame.covers_header) goes_on)
        | false ↦ (λ h. let s = stopped_by go k limit offset a kind (is_of_body kind) refl l e h in absurd (not_last offset kind s.0 (messages_at k limit offset a) s.1 goes_on))
      ] refl

  follows_within : (size : ℕ) (offset : ℕ) (a : List ℕ) → length a ≤ size → Follows offset a
  follows_within size offset [] l goes_on padded =
      let here : offset ≡ offset + length {A = ℕ} [] = omega arith in
      ap (λ n. messages_at k limit n b) here ∙ sym (ap (λ ms. ms ++ messages_at k limit (offset + length {A = ℕ} []) b) (go.none k limit offset))
  follows_within zero offset (x ∷ a) l goes_on padded = absurd (omega arith)
  follows_within (suc size) offset (x ∷ a) l goes_on padded =
      let c = x ∷ a in
      elim (seen (first_frame link_body limit c)) [
        | inl w ↦ accepted_follows offset c w.0 w.1 padded (follows_within size (offset + nla_align w.0.0) (drop (nla_align w.0.0) c) (omega (arith, (frames.accepted limit c w.0 w.1).low, length-drop (nla_align w.0.0) c, l))) goes_on padded
        | inr w ↦ fault_follows offset c w.0 (omega arith) w.1 padded (λ at n low. follows_within size at (drop (nla_align n) c) (omega (arith, low, length-drop (nla_align n) c, l))) goes_on padded
      ]

joined : FramesAreIndependent link_body → MessagesUnfold → (k : Bool) (limit offset : ℕ) (a b : List ℕ) → GoesOn k limit offset a → length a % 4 ≡ 0 → messages_at k limit offset (a ++ b) ≡ messages_at k limit offset a ++ messages_at k limit (offset + length a) b
joined frames go k limit offset a b = follows_within frames go k limit b (length a) offset a (omega arith)

pub pieces_are_joined : FramesAreIndependent link_body → MessagesUnfold → PiecesAreJoined
pieces_are_joined frames go = record {
  messages = joined frames go;
  lines = λ o limit offset a b goes_on padded.
      let k = o.keep_going in
      ap (lines_of_messages o) (joined frames go k limit offset a b goes_on padded) ∙ lines_more o (messages_at k limit offset a) (messages_at k limit (offset + length a) b);
  last = λ k limit offset a b goes_on padded.
      ap last_fault (joined frames go k limit offset a b goes_on padded) ∙ open_more (messages_at k limit offset a) (messages_at k limit (offset + length a) b) goes_on;
  accepted = accepted_alone frames go;
  faulty = faulty_alone go;
  header = has_header;
  stopped = λ k limit offset c kind l e s. stopped_by go k limit offset c kind (is_of_body kind) refl l e s;
}
