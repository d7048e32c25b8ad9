-- Two captures that are judged together, frame by frame.
use Rattle.std.proofs.Common.{◌≡◌, ◌≢◌, ℕ, ◌^◌, ◌<◌, ◌≤◌, Bool, true, false, cond, Some, Ok, List, [], ◌∷◌, ◌++◌, length, take, drop, sym, ap, subst, ◌∙◌, refl, arith, length-append, append_assoc}
use Rattle.std.proofs.lemmas.List.{append-nil, drop-append-le, length-drop, length-take, take_all, take-append-drop, take-append-le, take_at, append_cancel_left}
use Rattle.netlink_packet_core_grammar.specs.Attributes.{nla_align}
use Rattle.netlink_packet_core_grammar.specs.Frames.{BeginsWithFrame, frame_length, frame_type, frame_body}
use Rattle.netlink_packet_core_grammar.specs.Laws.{NumbersAreIndependent}
use Rattle.link_capture_grammar.specs.Body.{link_body}
use Rattle.link_capture_grammar.specs.declared.fault.CaptureFault.{CaptureFault}
use Rattle.link_capture_grammar.specs.Captures.{first_frame, first_fault, texts, IsLegal}
use Rattle.link_capture_grammar.specs.Laws.{CapturesUnfoldByFrames, CapturesAreCounted, FramesAreIndependent, LegalFrame, SamenessUnfoldsByFrames, TextsDetermineMeanings, SameAreLegal}
use Rattle.link_capture_grammar.specs.Same.{SameCapture, SameFrame, same_body}
use Rattle.link_capture_grammar.proofs.Frames.{frame_header-more, frame_type-more, frame_body-more}
use Rattle.link_capture_grammar.proofs.Same.{not_shifted}
use Rattle.link_capture_checks.specs.declared.sameness.SideFault.{SideFault}
use Rattle.link_capture_reader.proofs.Passing.{left_fault, left_texts}
use Rattle.link_capture_reader.specs.Devices.{IsPrefix}
use Rattle.link_capture_reader.specs.Walks.{IsLegalUpTo}
use Rattle.link_capture_comparing.specs.Sides.{IsAt}
use Rattle.link_capture_comparing.proofs.Standing.{passed}

-- The laws that a comparison rests on.
pub record Laws : Type 0 where
  pub go : CapturesUnfoldByFrames link_body
  pub counted : CapturesAreCounted link_body
  pub frames : FramesAreIndependent link_body
  pub numbers : NumbersAreIndependent
  pub sameness : SamenessUnfoldsByFrames link_body
  pub meanings : TextsDetermineMeanings link_body
  pub same_legal : SameAreLegal link_body

-- A legal continuation c of s: what remains of it after `at` is legal and begins with the bytes that remain of s, and its
-- texts are those of the frames before and of what remains.
pub record Continues (limit : ℕ) (s rest : List ℕ) (at : ℕ) (c left : List ℕ) : Type 0 where
  pub more : List ℕ
  pub left_is : left ≡ rest ++ more
  pub left_legal : IsLegal link_body limit left
  pub text : texts link_body limit c ≡ texts link_body limit (take at s) ++ texts link_body limit left

pub continues : Laws → (limit : ℕ) (s rest : List ℕ) (at : ℕ) (c : List ℕ) → IsAt limit s rest at → 0 < length rest → IsPrefix s c → IsLegal link_body limit c → Continues limit s rest at c (drop at c)
continues laws limit s rest at c h l p legal =
    let w = passed limit s rest at h l in
    let first : take at c ≡ take at s = ap (take at) p.1 ∙ take-append-le at s p.0 w.inside in
    let there : IsLegalUpTo limit c at = record {
      inside = omega (arith, w.inside, ap length p.1, length-append s p.0);
      start = h.start;
      legal = subst (IsLegal link_body limit) (sym first) h.legal;
    } in
    record {
      more = p.0;
      left_is = ap (drop at) p.1 ∙ drop-append-le at s p.0 w.inside ∙ ap (λ x. x ++ p.0) (sym h.rest_is);
      left_legal = not_shifted at (first_fault link_body limit (drop at c)) (sym (left_fault laws.go limit c at there) ∙ legal);
      text = left_texts laws.go limit c at there ∙ ap (λ x. texts link_body limit x ++ texts link_body limit (drop at c)) first;
    }

-- a legal capture that isn't empty has a text
has_text : Laws → (limit : ℕ) (c : List ℕ) → limit < 2 ^ 32 → IsLegal link_body limit c → 0 < length c → texts link_body limit c ≢ []
has_text laws limit c k h l e =
    laws.sameness.left_longer limit c [] l refl
    (laws.meanings.equal_text_implies_same limit c [] k h (laws.counted.no_fault limit) (e ∙ sym (laws.counted.no_text limit)))

no_more : (a b : List ℕ) → a ≡ a ++ b → b ≡ []
no_more [] b e = sym e
no_more (x ∷ a) b e = no_more a b (let f = e in cc)

-- one of two captures with equal texts so far has ended, and the other hasn't
pub left_ended : Laws → (limit : ℕ) (a b rest : List ℕ) (i j : ℕ) (d : List ℕ) → limit < 2 ^ 32 → IsAt limit b rest j → 0 < length rest → take i a ≡ a → texts link_body limit (take i a) ≡ texts link_body limit (take j b) → IsPrefix b d → IsLegal link_body limit d → SameCapture link_body limit a d → ⊥
left_ended laws limit a b rest i j d k h l whole e p legal s =
    let q = continues laws limit b rest j d h l p legal in
    let one : texts link_body limit a ≡ texts link_body limit d = laws.meanings.same_implies_equal_text limit a d s in
    let size : 0 < length (drop j d) = omega (arith, ap length q.left_is, length-append rest q.more) in
    has_text laws limit (drop j d) k q.left_legal size
    (no_more (texts link_body limit a) (texts link_body limit (drop j d)) (one ∙ q.text ∙ ap (λ x. x ++ texts link_body limit (drop j d)) (sym e ∙ ap (texts link_body limit) whole)))

pub right_ended : Laws → (limit : ℕ) (a b rest : List ℕ) (i j : ℕ) (c : List ℕ) → limit < 2 ^ 32 → IsAt limit a rest i → 0 < length rest → take j b ≡ b → texts link_body limit (take i a) ≡ texts link_body limit (take j b) → IsPrefix a c → IsLegal link_body limit c → SameCapture link_body limit c b → ⊥
right_ended laws limit a b rest i j c k h l whole e p legal s =
    left_ended laws limit b a rest j i c k h l whole (sym e) p legal (laws.meanings.symmetric limit c b s)

-- The first frame of a capture, alone: these bytes are as many as the length in their header says.
pub record Leads (left frame : List ℕ) : Type 0 where
  pub more : List ℕ
  pub left_is : left ≡ frame ++ more
  pub whole : frame_length frame ≡ length frame
  pub header : 16 ≤ length frame

pub leads : NumbersAreIndependent → (rest more left : List ℕ) (n : ℕ) → BeginsWithFrame rest → n ≡ frame_length rest → left ≡ rest ++ more → Leads left (take n rest)
leads numbers rest more left n f e l =
    let size : length (take n rest) ≡ n = length-take n rest ∙ omega (arith, f.within, e) in
    let claimed : frame_length (take n rest) ≡ frame_length rest =
    sym (numbers.four_bytes (take n rest) (drop n rest) (omega (arith, size, e, f.covers_header))) ∙ ap frame_length (take-append-drop n rest) in
    record {
      more = drop n rest ++ more;
      left_is = l ∙ ap (λ x. x ++ more) (sym (take-append-drop n rest)) ∙ append_assoc (take n rest) (drop n rest) more;
      whole = claimed ∙ sym e ∙ sym size;
      header = omega (arith, size, e, f.covers_header);
    }

-- a legal capture's first frame is legal, and so it is alone
frame_legal : Laws → (limit : ℕ) (left frame : List ℕ) → Leads left frame → IsLegal link_body limit left → LegalFrame link_body limit left × LegalFrame link_body limit frame
frame_legal laws limit left frame h legal =
    let size : 0 < length left = omega (arith, ap length h.left_is, length-append frame h.more, h.header) in
    let p = laws.sameness.leading limit left legal size in
    let n : frame_length left ≡ length frame =
    ap frame_length h.left_is ∙ laws.numbers.four_bytes frame h.more (omega (arith, h.header)) ∙ h.whole in
    let one : take (frame_length left) frame ≡ frame = take_all (frame_length left) frame (omega (arith, n)) in
    let two : take (frame_length left) left ≡ frame = ap (take (frame_length left)) h.left_is ∙ take_at frame h.more (frame_length left) (sym n) in
    (p, (laws.sameness.equal limit left frame p (one ∙ sym two)).0)

-- two legal captures that mean the same have first frames that do
pub same_first : Laws → (limit : ℕ) (x y f g : List ℕ) → Leads x f → Leads y g → IsLegal link_body limit x → IsLegal link_body limit y → SameCapture link_body limit x y → SameCapture link_body limit f g
same_first laws limit x y f g h k p q s =
    let a = frame_legal laws limit x f h p in
    let b = frame_legal laws limit y g k q in
    let there = laws.sameness.differs limit x y a.0 b.0 s in
    let header_x : take 12 (drop 4 x) ≡ take 12 (drop 4 f) = ap (λ z. take 12 (drop 4 z)) h.left_is ∙ frame_header-more f h.more h.header in
    let header_y : take 12 (drop 4 y) ≡ take 12 (drop 4 g) = ap (λ z. take 12 (drop 4 z)) k.left_is ∙ frame_header-more g k.more k.header in
    let type_x : frame_type x ≡ frame_type f = ap frame_type h.left_is ∙ frame_type-more f h.more h.header in
    let body_x : frame_body x ≡ frame_body f = ap frame_body h.left_is ∙ frame_body-more f h.more h.header (omega (arith, h.whole)) in
    let body_y : frame_body y ≡ frame_body g = ap frame_body k.left_is ∙ frame_body-more g k.more k.header (omega (arith, k.whole)) in
    let bodies : same_body link_body (frame_type x) (frame_body x) (frame_body y) ≡ same_body link_body (frame_type f) (frame_body f) (frame_body g) = λ i. same_body link_body (type_x i) (body_x i) (body_y i) in
    let same : SameFrame link_body f g = record { header = sym header_x ∙ there.header ∙ header_y; body = sym bodies ∙ there.body } in
    (laws.sameness.more limit f g a.1 b.1 same).0
    (laws.sameness.ended limit (drop (nla_align (frame_length f)) f) (drop (nla_align (frame_length g)) g)
    (length-drop (nla_align (frame_length f)) f ∙ omega (arith, h.whole)) (length-drop (nla_align (frame_length g)) g ∙ omega (arith, k.whole)))

-- legal continuations of captures with equal texts so far mean the same only if what remains of them does
pub same_left : Laws → (limit : ℕ) (a b one two : List ℕ) (i j : ℕ) (c d : List ℕ) → limit < 2 ^ 32 → texts link_body limit (take i a) ≡ texts link_body limit (take j b) → Continues limit a one i c (drop i c) → Continues limit b two j d (drop j d) → SameCapture link_body limit c d → SameCapture link_body limit (drop i c) (drop j d)
same_left laws limit a b one two i j c d k e p q s =
    let t : texts link_body limit c ≡ texts link_body limit d = laws.meanings.same_implies_equal_text limit c d s in
    let joined : texts link_body limit (take i a) ++ texts link_body limit (drop i c) ≡ texts link_body limit (take i a) ++ texts link_body limit (drop j d) =
    sym p.text ∙ t ∙ q.text ∙ ap (λ x. x ++ texts link_body limit (drop j d)) (sym e) in
    laws.meanings.equal_text_implies_same limit (drop i c) (drop j d) k p.left_legal q.left_legal
    (append_cancel_left (texts link_body limit (take i a)) (texts link_body limit (drop i c)) (texts link_body limit (drop j d)) joined)

-- so their next frames do
pub same_next : Laws → (limit : ℕ) (a b one two : List ℕ) (i j m n : ℕ) (c d : List ℕ) → limit < 2 ^ 32 → IsAt limit a one i → IsAt limit b two j → BeginsWithFrame one → m ≡ frame_length one → BeginsWithFrame two → n ≡ frame_length two → texts link_body limit (take i a) ≡ texts link_body limit (take j b) →
    IsPrefix a c → IsPrefix b d → IsLegal link_body limit c → IsLegal link_body limit d → SameCapture link_body limit c d → SameCapture link_body limit (take m one) (take n two)
same_next laws limit a b one two i j m n c d k h w f e g u t p q x y s =
    let left = continues laws limit a one i c h (omega (arith, f.has_header)) p x in
    let right = continues laws limit b two j d w (omega (arith, g.has_header)) q y in
    same_first laws limit (drop i c) (drop j d) (take m one) (take n two)
    (leads laws.numbers one left.more (drop i c) m f e left.left_is) (leads laws.numbers two right.more (drop j d) n g u right.left_is)
    left.left_legal right.left_legal (same_left laws limit a b one two i j c d k t left right s)

-- a frame that is legal alone is accepted, with its text
pub first_is : Laws → (limit : ℕ) (rest : List ℕ) (n : ℕ) → BeginsWithFrame rest → n ≡ frame_length rest → IsLegal link_body limit (take n rest) → first_frame link_body limit rest ≡ Ok (n, texts link_body limit (take n rest))
first_is laws limit rest n f e legal =
    let h = leads laws.numbers rest [] rest n f e (sym (append-nil rest)) in
    let frame : List ℕ = take n rest in
    let size : length frame ≡ n = length-take n rest ∙ omega (arith, f.within, e) in
    let p = laws.sameness.leading limit frame legal (omega (arith, h.header)) in
    let text : texts link_body limit frame ≡ p.text =
    ap (texts link_body limit) (sym (take_all (nla_align (frame_length frame)) frame (omega (arith, h.whole)))) ∙ laws.go.one_frame_text limit frame (frame_length frame, p.text) p.is in
    ap (first_frame link_body limit) h.left_is ∙ laws.frames.unchanged_by_more limit frame h.more (λ q. let is = p.is in absurd cc) ∙ p.is
    ∙ ap (λ k. Ok (k, p.text)) (h.whole ∙ size) ∙ ap (λ t. Ok (n, t)) (sym text)

-- a capture with a fault means the same as none
by_side : (limit : ℕ) (a b : List ℕ) (second : Bool) (fault : CaptureFault) → IsLegal link_body limit a → IsLegal link_body limit b → first_fault link_body limit (cond second b a) ≡ Some fault → ⊥
by_side limit a b true fault h k f = absurd (cc (k, f))
by_side limit a b false fault h k f = absurd (cc (h, f))

pub faulty_differs : SameAreLegal link_body → (limit : ℕ) (a b : List ℕ) (e : SideFault) → first_fault link_body limit (cond e.second b a) ≡ Some e.fault → SameCapture link_body limit a b → ⊥
faulty_differs same_legal limit a b e f s = let h = same_legal limit a b s in by_side limit a b e.second e.fault h.0 h.1 f
