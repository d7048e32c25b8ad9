-- The lines of a message with a fault of its body determine its bytes, and differ from those of an accepted message.
use Rattle.std.proofs.Common.{◌≡◌, ℕ, ◌+◌, ◌-◌, ◌<◌, ◌≤◌, Bool, true, false, cond, List, [], ◌∷◌, ◌++◌, length, take, drop, get_or, Ok, Err, ◌⊎◌, inl, inr, refl, sym, ap, subst, ◌∙◌, append_assoc, append-nil, arith}
use Rattle.std.specs.Prelude.{◌==◌, ◌||◌, codes, nat_eq, nat_le, nat_lt}
use Rattle.std.proofs.lemmas.Bool.{eqb-true, le-ltb, true≢false}
use Rattle.std.proofs.lemmas.List.{drop-append-le, drop_all, length-drop, length-take, take-append-drop}
use Rattle.netlink_packet_core_grammar.specs.Bytes.{AreBytes}
use Rattle.netlink_packet_core_grammar.specs.Frames.{BeginsWithFrame, frame_body, frame_length, frame_type}
use Rattle.netlink_packet_core_grammar.specs.Numbers.{u16_at}
use Rattle.netlink_packet_core_grammar.proofs.Bytes.{AreBytes-drop, AreBytes-take}
use Rattle.link_message_grammar.specs.Body.{link_body}
use Rattle.link_capture_grammar.specs.Bodies.{body_text, done_text, error_text, is_link_type, ruled_text}
use Rattle.link_capture_grammar.specs.Captures.{Judged, first_frame, judged_text}
use Rattle.link_capture_grammar.specs.declared.fault.FaultKind.{FaultKind}
use Rattle.link_capture_grammar.specs.declared.fault.FaultKind.TheVariants.{Cut, ShortLength, OverLimit}
use Rattle.link_capture_grammar.proofs.Frames.{checked_header_by, frame_type-more}
use Rattle.link_lines_texts.specs.declared.format.Scope.{Scope}
use Rattle.link_lines_texts.specs.Determination.{IsCanonicalFrame, StartsFrame}
use Rattle.link_lines_texts.specs.Frames.{body_lines, code_lines, frame_lines, has_request_flag, header_line, in_message, link_lines, other_lines}
use Rattle.link_lines_parts.specs.BytesLines.{bytes_line}
use Rattle.link_lines_texts.specs.Links.{link_header_line, link_numbers}
use Rattle.link_lines_texts.specs.Lists.{list_lines, of_link}
use Rattle.link_lines_texts.proofs.FramesDetermined.{bytes_line_determined}
use Rattle.link_lines_texts.proofs.HeadersDetermined.{four_further, header_determined}
use Rattle.link_lines_texts.proofs.LineCuts.{cut_line, following}
use Rattle.link_lines.specs.MessageLines.{body_reason, faulty_lines, refusal_line}
use Rattle.link_lines.specs.Messages.{is_of_body}
use Rattle.link_lines.proofs.ReasonLines.{reason_line}

-- ---- the types of such messages

-- A type whose bodies are read: NLMSG_ERROR, NLMSG_DONE, or a link's.
abbrev IsRead : ℕ → Type 0
IsRead t = (t ≡ 2) ⊎ ((t ≡ 3) ⊎ (is_link_type t ≡ true))

-- A fault of a header isn't one of a body.
not_of_body : (other kind : FaultKind) → is_of_body other ≡ false → is_of_body kind ≡ true → ◌≡◌ {A = Judged} (Err other) (Err kind) → ⊥
not_of_body other kind h b e = let k : kind ≡ other = cc in true≢false (sym b ∙ ap (λ x. is_of_body x) k ∙ h)

-- What a fault of a body implies of the first message: its bytes are there, and the fault is that of its body.
pub record HasFaultOfBody (limit : ℕ) (c : List ℕ) (kind : FaultKind) : Type 0 where
  pub frame : BeginsWithFrame c
  pub high : frame_length c ≤ limit
  pub judged : judged_text limit c (body_text link_body (frame_type c) (frame_body c)) ≡ Err kind

pub fault_of_body : (limit : ℕ) (c : List ℕ) (kind : FaultKind) → first_frame link_body limit c ≡ Err kind → is_of_body kind ≡ true → HasFaultOfBody limit c kind
unfolding first_frame
fault_of_body limit c kind e b =
    checked_header_by limit (length c) (frame_length c) (judged_text limit c (body_text link_body (frame_type c) (frame_body c))) (λ j. j ≡ Err kind → HasFaultOfBody limit c kind)
    (λ l f. absurd (not_of_body Cut kind refl b f)) (λ l f. absurd (not_of_body ShortLength kind refl b f)) (λ l f. absurd (not_of_body OverLimit kind refl b f)) (λ l m h s f. absurd (not_of_body Cut kind refl b f))
    (λ header low high within f. record { frame = record { has_header = header; covers_header = low; within = within }; high = high; judged = f }) e

-- A text within the limit has no fault.
text_fits : (limit : ℕ) (c body : List ℕ) (kind : FaultKind) → 16 + length body ≤ limit → judged_text limit c (Ok body) ≡ Err kind → ⊥
text_fits limit c body kind h e = let fits : nat_lt limit (16 + length body) ≡ false = le-ltb limit (16 + length body) h in absurd cc

read_by : (limit : ℕ) (c b : List ℕ) (kind : FaultKind) (t : ℕ) (noop error done link : Bool) → nat_eq t 2 ≡ error → nat_eq t 3 ≡ done → is_link_type t ≡ link → 16 + length b ≤ limit →
    judged_text limit c (cond noop (Ok []) (cond error (error_text b) (cond done (done_text b) (cond link (ruled_text link_body b) (Ok b))))) ≡ Err kind → IsRead t
read_by limit c b kind t true error done link h k l m e = absurd (text_fits limit c [] kind (omega (arith, m)) e)
read_by limit c b kind t false true done link h k l m e = inl (eqb-true t 2 h)
read_by limit c b kind t false false true link h k l m e = inr (inl (eqb-true t 3 k))
read_by limit c b kind t false false false true h k l m e = inr (inr l)
read_by limit c b kind t false false false false h k l m e = absurd (text_fits limit c b kind m e)

-- Only bodies that are read have faults.
is_read : (limit : ℕ) (c : List ℕ) (kind : FaultKind) → HasFaultOfBody limit c kind → IsRead (frame_type c)
unfolding body_text
is_read limit c kind h =
    let t = frame_type c in
    let b = frame_body c in
    let size : 16 + length b ≤ limit = omega (arith, length-take (frame_length c - 16) (drop 16 c), h.frame.covers_header, h.high) in
    read_by limit c b kind t (nat_eq t 1) (nat_eq t 2) (nat_eq t 3) (is_link_type t) refl refl refl size h.judged

-- ---- the lines of bodies that are read

-- Such a body has no lines without its bytes.
no_lines : (n : Bool) (t flags : ℕ) → IsRead t → body_lines n t flags [] ≡ []
unfolding body_lines link_lines code_lines bytes_line
no_lines n t flags (inl two) = subst (λ t. body_lines n t flags [] ≡ []) (sym two) refl
no_lines n t flags (inr (inl three)) = subst (λ t. body_lines n t flags [] ≡ []) (sym three) refl
no_lines n t flags (inr (inr link)) = ap (λ l. cond l (link_lines (in_message (has_request_flag flags)) []) (cond (t == 2 || t == 3) (code_lines n t flags []) (other_lines t (has_request_flag flags) []))) link

-- A text begins as the line of a refusal does.
abbrev StartsRefusal : List ℕ → Type 0
StartsRefusal s = (r : List ℕ) × (s ≡ 32 ∷ 32 ∷ 114 ∷ r)

after_lines : (s : List ℕ) → StartsFrame s → StartsRefusal s → ⊥
after_lines [] h (r, e) = absurd cc
after_lines (c ∷ s) h (r, e) = let first : c ≡ 32 = cc in omega arith

third : (c : ℕ) (s : List ℕ) → c < 114 → StartsRefusal (32 ∷ 32 ∷ c ∷ s) → ⊥
third c s l (r, e) = let same : c ≡ 114 = ap (λ l. get_or l 2 0) e in omega arith

bytes_differ : (p s : List ℕ) → StartsFrame s → StartsRefusal (bytes_line (codes "body") p ++ s) → ⊥
unfolding bytes_line
bytes_differ [] s h e = after_lines s h e
bytes_differ (x ∷ p) s h e = third 98 _ (omega arith) e

link_by : (scope : Scope) (p s : List ℕ) (b : Bool) → StartsFrame s → StartsRefusal (cond b (link_header_line 1 p ++ list_lines 1 (of_link scope p) (drop 16 p)) (bytes_line (codes "body") p) ++ s) → ⊥
unfolding link_numbers
link_by scope p s true h e = third 105 _ (omega arith) e
link_by scope p s false h e = bytes_differ p s h e

code_by : (more p s : List ℕ) (b : Bool) → StartsFrame s → StartsRefusal (cond b (codes "  code" ++ more) (bytes_line (codes "body") p) ++ s) → ⊥
code_by more p s true h e = third 99 _ (omega arith) e
code_by more p s false h e = bytes_differ p s h e

-- The lines of such a body aren't those of a refusal.
body_differs : (n : Bool) (t flags : ℕ) (p s : List ℕ) → IsRead t → StartsFrame s → StartsRefusal (body_lines n t flags p ++ s) → ⊥
unfolding body_lines link_lines code_lines
body_differs n t flags p s (inl two) h e = code_by _ p s (nat_le 4 (length p)) h (subst (λ t. StartsRefusal (body_lines n t flags p ++ s)) two e)
body_differs n t flags p s (inr (inl three)) h e = code_by _ p s (nat_le 4 (length p)) h (subst (λ t. StartsRefusal (body_lines n t flags p ++ s)) three e)
body_differs n t flags p s (inr (inr link)) h e =
    link_by (in_message (has_request_flag flags)) p s (nat_le 16 (length p)) h
    (subst (λ l. StartsRefusal (cond l (link_lines (in_message (has_request_flag flags)) p) (cond (t == 2 || t == 3) (code_lines n t flags p) (other_lines t (has_request_flag flags) p)) ++ s)) link e)

-- ---- the lines of messages with a fault of their body

-- The bytes of a message with a fault of its body.
pub record IsFaulty (limit : ℕ) (kind : FaultKind) (f : List ℕ) : Type 0 where
  pub bytes : AreBytes f
  pub size : frame_length f ≡ length f
  pub judged : first_frame link_body limit f ≡ Err kind
  pub body : is_of_body kind ≡ true

abbrev header : List ℕ → List ℕ
header f = take 16 f

header_size : (f : List ℕ) → 16 ≤ length f → length (header f) ≡ 16
header_size f h = omega (arith, length-take 16 f, h)

no_body : (f : List ℕ) → drop 16 (header f) ≡ []
no_body f = drop_all 16 (header f) (omega (arith, length-take 16 f))

same_type : (f : List ℕ) → 16 ≤ length f → u16_at 4 f ≡ u16_at 4 (header f)
same_type f h = ap (u16_at 4) (sym (take-append-drop 16 f)) ∙ frame_type-more (header f) (drop 16 f) (omega (arith, header_size f h))

-- The header has one line.
header_alone : (f : List ℕ) → IsRead (u16_at 4 (header f)) → frame_lines true (header f) ≡ header_line true (header f)
unfolding frame_lines
header_alone f read =
    let h = header f in
    let line = header_line true h in
    ap (λ b. line ++ body_lines true (u16_at 4 h) (u16_at 6 h) b) (no_body f)
    ∙ ap (λ z. line ++ z) (no_lines true (u16_at 4 h) (u16_at 6 h) read) ∙ append-nil line

-- What follows the header's line.
abbrev after_header : FaultKind → List ℕ → List ℕ → List ℕ
after_header kind f s = refusal_line kind f ++ (bytes_line (codes "body") (drop 16 f) ++ s)

lines_are : (kind : FaultKind) (f s : List ℕ) → IsRead (u16_at 4 (header f)) → faulty_lines true kind f ++ s ≡ header_line true (header f) ++ after_header kind f s
unfolding faulty_lines
lines_are kind f s read =
    let line = header_line true (header f) in
    let own = refusal_line kind f ++ bytes_line (codes "body") (drop 16 f) in
    ap (λ z. (z ++ own) ++ s) (header_alone f read) ∙ append_assoc line own s ∙ ap (λ z. line ++ z) (append_assoc (refusal_line kind f) (bytes_line (codes "body") (drop 16 f)) s)

-- A refusal has one line.
after_refusal : (k j : FaultKind) (f g s t : List ℕ) → refusal_line k f ++ s ≡ refusal_line j g ++ t → s ≡ t
unfolding refusal_line
after_refusal k j f g s t e =
    let x = body_reason k f in
    let y = body_reason j g in
    (cut_line x y s t (reason_line k f) (reason_line j g) (following x (10 ∷ []) s y (10 ∷ []) t (ap (drop 11) e))).1

starts_refusal : (kind : FaultKind) (f s : List ℕ) → StartsRefusal (after_header kind f s)
unfolding refusal_line
starts_refusal kind f s = (_, refl)

after_length : (f : List ℕ) → 16 ≤ length f → drop 4 f ≡ drop 4 (header f) ++ drop 16 f
after_length f h = ap (drop 4) (sym (take-append-drop 16 f)) ∙ drop-append-le 4 (header f) (drop 16 f) (omega (arith, header_size f h))

-- Bytes with the same header but for the length, and the same body, are the same.
same_bytes : (f g : List ℕ) → AreBytes f → AreBytes g → 16 ≤ length f → 16 ≤ length g → frame_length f ≡ length f → frame_length g ≡ length g →
    drop 4 (header f) ≡ drop 4 (header g) → drop 16 f ≡ drop 16 g → f ≡ g
same_bytes f g a b l m p q h k =
    let rest : drop 4 f ≡ drop 4 g = after_length f l ∙ ap (λ z. z ++ drop 16 f) h ∙ ap (λ z. drop 4 (header g) ++ z) k ∙ sym (after_length g m) in
    let size : frame_length f ≡ frame_length g = omega (arith, p, q, l, m, ap length k, length-drop 16 f, length-drop 16 g) in
    four_further 0 f g a b (omega (arith, l)) (omega (arith, m)) size rest

-- The header of such a message is whole, and its type is one whose bodies are read.
record Parts (f : List ℕ) : Type 0 where
  whole : 16 ≤ length f
  bytes : AreBytes (header f)
  enough : 16 ≤ length (header f)
  read : IsRead (u16_at 4 (header f))

parts_of : (limit : ℕ) (kind : FaultKind) (f : List ℕ) → IsFaulty limit kind f → Parts f
parts_of limit kind f h =
    let b = fault_of_body limit f kind h.judged h.body in
    let whole = b.frame.has_header in
    record {
      whole = whole;
      bytes = AreBytes-take 16 f h.bytes;
      enough = omega (arith, header_size f whole);
      read = subst IsRead (same_type f whole) (is_read limit f kind b);
    }

-- The bytes are determined, and where the lines end.
pub faulty_determined : (limit : ℕ) (k j : FaultKind) (f g s t : List ℕ) → IsFaulty limit k f → IsFaulty limit j g → StartsFrame s → StartsFrame t →
    faulty_lines true k f ++ s ≡ faulty_lines true j g ++ t → (f ≡ g) × (s ≡ t)
faulty_determined limit k j f g s t h i u v e =
    let p = parts_of limit k f h in
    let q = parts_of limit j g i in
    let alike = sym (lines_are k f s p.read) ∙ e ∙ lines_are j g t q.read in
    let same = header_determined true (header f) (header g) (after_header k f s) (after_header j g t) p.bytes q.bytes p.enough q.enough tt tt alike in
    let bodies = bytes_line_determined (codes "body") (drop 16 f) (drop 16 g) s t (AreBytes-drop 16 f h.bytes) (AreBytes-drop 16 g i.bytes) u v (after_refusal k j f g _ _ same.rest) in
    (same_bytes f g h.bytes i.bytes p.whole q.whole h.size i.size (same.bytes (no_body f ∙ sym (no_body g))) bodies.0, bodies.1)

-- The lines of an accepted message are others.
pub accepted_differs : (limit : ℕ) (kind : FaultKind) (f g s t : List ℕ) → IsFaulty limit kind f → IsCanonicalFrame g → StartsFrame t → faulty_lines true kind f ++ s ≡ frame_lines true g ++ t → ⊥
unfolding frame_lines
accepted_differs limit kind f g s t h i v e =
    let p = parts_of limit kind f h in
    let own = body_lines true (u16_at 4 g) (u16_at 6 g) (drop 16 g) in
    let alike = sym (lines_are kind f s p.read) ∙ e ∙ append_assoc (header_line true g) own t in
    let same = header_determined true (header f) g (after_header kind f s) (own ++ t) p.bytes i.bytes p.enough i.header tt tt alike in
    body_differs true (u16_at 4 g) (u16_at 6 g) (drop 16 g) t (subst IsRead same.type p.read) v (subst StartsRefusal same.rest (starts_refusal kind f s))
