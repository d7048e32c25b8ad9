-- The texts of the bodies of each type.
use Rattle.std.proofs.Common.{◌≡◌, ◌≢◌, ℕ, true, false, ◌<◌, ◌≤◌, ◌⊎◌, inl, inr, Result, List, [], length, take, drop, Ok, Err, IfOk, IfErr, refl, sym, ap, subst, ◌∙◌, arith}
use Rattle.std.specs.Prelude.{bytes_eq}
use Rattle.std.proofs.lemmas.Bool.{le-leb, lt-leb, ne_eqb}
use Rattle.netlink_packet_core_grammar.specs.Frames.{frame_type}
use Rattle.netlink_packet_core_grammar.specs.Numbers.{u16_at}
use Rattle.link_message_grammar.specs.Body.{link_body}
use Rattle.link_capture_grammar.specs.declared.fault.FaultKind.{FaultKind}
use Rattle.link_capture_grammar.specs.Bodies.{body_text, done_text, error_text, is_link_type, ruled_text}
use Rattle.link_capture_grammar.specs.Same.{done_body, same_body}
use Rattle.link_capture_grammar.proofs.Meanings.{type_at}
use Rattle.link_capture_grammar.specs.Numbers.{body_attribute_count}
use Rattle.link_capture_checks.specs.declared.texts.MeasuredBody.{MeasuredBody}
use Rattle.link_capture_checks.specs.Measures.{IsMeasuredBody}

-- the text of a body of a type
pub record Judges (t : ℕ) (b : List ℕ) (judged : Result (List ℕ) FaultKind) (inside : ℕ) : Type 0 where
  pub text : body_text link_body t b ≡ judged
  pub attributes : body_attribute_count link_body t b ≡ inside

at_type : (t k : ℕ) (b : List ℕ) (judged : Result (List ℕ) FaultKind) → t ≡ k → Judges k b judged 0 → Judges t b judged 0
at_type t k b judged e = subst (λ t. Judges t b judged 0) (sym e)

pub noop : (t : ℕ) (b : List ℕ) → t ≡ 1 → Judges t b (Ok []) 0
unfolding body_text
noop t b e = at_type t 1 b (Ok []) e (record { text = refl; attributes = refl })

pub error : (t : ℕ) (b : List ℕ) → t ≡ 2 → Judges t b (error_text b) 0
unfolding body_text
error t b e = at_type t 2 b (error_text b) e (record { text = refl; attributes = refl })

pub done : (t : ℕ) (b : List ℕ) → t ≡ 3 → Judges t b (done_text b) 0
unfolding body_text
done t b e = at_type t 3 b (done_text b) e (record { text = refl; attributes = refl })

pub link : (t : ℕ) (b : List ℕ) → 16 ≤ t → t ≤ 19 → Judges t b (ruled_text link_body b) (link_body.attributes b)
unfolding body_text
link t b l h = record {
  text = rw (ne_eqb t 1 (λ e. omega (arith, e, l)), ne_eqb t 2 (λ e. omega (arith, e, l)), ne_eqb t 3 (λ e. omega (arith, e, l)), le-leb 16 t l, le-leb t 19 h) refl;
  attributes = rw (le-leb 16 t l, le-leb t 19 h) refl;
}

outside : (t : ℕ) → (t < 16) ⊎ (19 < t) → is_link_type t ≡ false
outside t (inl l) = rw (lt-leb 16 t l) refl
outside t (inr l) = rw (le-leb 16 t (omega (arith, l)), lt-leb t 19 l) refl

pub other : (t : ℕ) (b : List ℕ) → t ≢ 1 → t ≢ 2 → t ≢ 3 → (t < 16) ⊎ (19 < t) → Judges t b (Ok b) 0
unfolding body_text
other t b n m k o = record {
  text = rw (ne_eqb t 1 n, ne_eqb t 2 m, ne_eqb t 3 k, outside t o) refl;
  attributes = rw (outside t o) refl;
}

-- a measure, or a refusal, of the judged text is one of the body
pub measured : (t : ℕ) (b : List ℕ) (judged : Result (List ℕ) FaultKind) (inside : ℕ) → Judges t b judged inside → (r : Result MeasuredBody FaultKind) → IfOk r (λ m. IsMeasuredBody b judged inside m) → IfOk r (λ m. IsMeasuredBody b (body_text link_body t b) (body_attribute_count link_body t b) m)
measured t b judged inside j r h = rw (j.text, j.attributes) h

pub refused : (t : ℕ) (b : List ℕ) (judged : Result (List ℕ) FaultKind) (inside : ℕ) → Judges t b judged inside → (r : Result MeasuredBody FaultKind) → IfErr r (λ kind. judged ≡ Err kind) → IfErr r (λ kind. body_text link_body t b ≡ Err kind)
refused t b judged inside j r h = rw j.text h

-- whether two bodies mean the same, type by type
pub same_noop : (t : ℕ) (a b : List ℕ) → t ≡ 1 → true ≡ same_body link_body t a b
unfolding same_body
same_noop t a b e = subst (λ t. true ≡ same_body link_body t a b) (sym e) refl

pub same_done : (t : ℕ) (a b : List ℕ) → t ≡ 3 → bytes_eq (done_body a) (done_body b) ≡ same_body link_body t a b
unfolding same_body
same_done t a b e = subst (λ t. bytes_eq (done_body a) (done_body b) ≡ same_body link_body t a b) (sym e) refl

pub same_link : (t : ℕ) (a b : List ℕ) → 16 ≤ t → t ≤ 19 → link_body.same a b ≡ same_body link_body t a b
unfolding same_body
same_link t a b l h = rw (ne_eqb t 1 (λ e. omega (arith, e, l)), ne_eqb t 3 (λ e. omega (arith, e, l)), le-leb 16 t l, le-leb t 19 h) refl

pub same_other : (t : ℕ) (a b : List ℕ) → t ≢ 1 → t ≢ 3 → (t < 16) ⊎ (19 < t) → bytes_eq a b ≡ same_body link_body t a b
unfolding same_body
same_other t a b n k o = rw (ne_eqb t 1 n, ne_eqb t 3 k, outside t o) refl

-- equal headers have the same type
pub one_type : (a b : List ℕ) → 16 ≤ length a → 16 ≤ length b → take 12 (drop 4 a) ≡ take 12 (drop 4 b) → frame_type a ≡ frame_type b
one_type a b l k h = type_at a l ∙ ap (u16_at 0) h ∙ sym (type_at b k)
