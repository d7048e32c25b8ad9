-- The text of a body, by the type of its frame.
use Rattle.std.proofs.Common.{ℕ, eqb, Bool, true, false, cond, List, [], Result, Ok, sym, subst, inl, inr}
use Rattle.std.specs.Prelude.{bytes_eq}
use Rattle.std.proofs.lemmas.Bool.{cases_Bool, eqb-true}
use Rattle.attribute_tables_grammar.specs.Rules.{Rule}
use Rattle.link_capture_grammar.specs.Bodies.{error_text, done_text, ruled_text, is_link_type, body_text}
use Rattle.link_capture_grammar.specs.Numbers.{body_attribute_count}
use Rattle.link_capture_grammar.specs.Same.{done_body, same_body}
use Rattle.link_capture_grammar.specs.declared.fault.FaultKind.{FaultKind}

-- What holds of the bodies of each type holds of all bodies: of their texts, of their equivalence, and of the numbers
-- of their attributes.
pub by_type : (r : Rule) (P : (List ℕ → Result (List ℕ) FaultKind) → (List ℕ → List ℕ → Bool) → (List ℕ → ℕ) → Type 0) →
    P (λ b. Ok []) (λ a b. true) (λ b. 0) →
    P error_text bytes_eq (λ b. 0) →
    P done_text (λ a b. bytes_eq (done_body a) (done_body b)) (λ b. 0) →
    P (ruled_text r) r.same r.attributes →
    P (λ b. Ok b) bytes_eq (λ b. 0) →
    (t : ℕ) → P (body_text r t) (same_body r t) (body_attribute_count r t)
unfolding body_text same_body
by_type r P noop error done link other t =
    elim (cases_Bool (eqb t 1)) [
      | inl k ↦ subst At (sym (eqb-true t 1 k)) noop
      | inr k ↦
          elim (cases_Bool (eqb t 2)) [
            | inl m ↦ subst At (sym (eqb-true t 2 m)) error
            | inr m ↦
                elim (cases_Bool (eqb t 3)) [
                  | inl n ↦ subst At (sym (eqb-true t 3 n)) done
                  | inr n ↦ subst (λ x. TypeTests x (eqb t 2) (eqb t 3) (is_link_type t)) (sym k) (subst (λ y. TypeTests false y (eqb t 3) (is_link_type t)) (sym m) (subst (λ z. TypeTests false false z (is_link_type t)) (sym n) (last (is_link_type t))))
                ]
          ]
    ]
  where
    At : ℕ → Type 0
    At t = P (body_text r t) (same_body r t) (body_attribute_count r t)

    TypeTests : (noop error done link : Bool) → Type 0
    TypeTests noop error done link =
        P (λ b. cond noop (Ok []) (cond error (error_text b) (cond done (done_text b) (cond link (ruled_text r b) (Ok b)))))
        (λ a b. cond noop true (cond done (bytes_eq (done_body a) (done_body b)) (cond link (r.same a b) (bytes_eq a b)))) (λ b. cond link (r.attributes b) 0)

    last : (link : Bool) → TypeTests false false false link
    last true = link
    last false = other
