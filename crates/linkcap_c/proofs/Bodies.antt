-- What two bodies of a type are compared by, without the numbers of a header that an NLMSG_ERROR repeats.
use Rattle.std.proofs.Common.{◌≡◌, ◌≢◌, ℕ, ◌<◌, ◌≤◌, ◌⊎◌, true, cond, List, refl, sym, ap, subst, ◌∙◌, arith}
use Rattle.std.specs.Prelude.{bytes_eq}
use Rattle.std.proofs.lemmas.Bool.{ne_eqb}
use Rattle.link_capture_grammar.specs.Body.{link_body}
use Rattle.link_capture_grammar.specs.Same.{done_body, same_body}
use Rattle.link_capture_checks.proofs.Types.{same_noop, same_done, same_link, same_other}
use Rattle.linkcap_c.specs.Apart.{body_without_numbers, error_cleared}

kept : (t : ℕ) (body : List ℕ) → t ≢ 2 → body_without_numbers t body ≡ body
kept t body n = ap (λ z. cond z (error_cleared body) body) (ne_eqb t 2 n)

both : (t : ℕ) (a b : List ℕ) → t ≢ 2 → same_body link_body t a b ≡ same_body link_body t (body_without_numbers t a) (body_without_numbers t b)
both t a b n = ap (λ z. same_body link_body t z b) (sym (kept t a n)) ∙ ap (λ z. same_body link_body t (body_without_numbers t a) z) (sym (kept t b n))

pub noop : (t : ℕ) (a b : List ℕ) → t ≡ 1 → true ≡ same_body link_body t (body_without_numbers t a) (body_without_numbers t b)
noop t a b e = same_noop t (body_without_numbers t a) (body_without_numbers t b) e

pub error : (t : ℕ) (a b : List ℕ) → t ≡ 2 → bytes_eq (error_cleared a) (error_cleared b) ≡ same_body link_body t (body_without_numbers t a) (body_without_numbers t b)
unfolding same_body
error t a b e = subst (λ t. bytes_eq (error_cleared a) (error_cleared b) ≡ same_body link_body t (body_without_numbers t a) (body_without_numbers t b)) (sym e) refl

pub done : (t : ℕ) (a b : List ℕ) → t ≡ 3 → bytes_eq (done_body a) (done_body b) ≡ same_body link_body t (body_without_numbers t a) (body_without_numbers t b)
done t a b e = same_done t a b e ∙ both t a b (λ k. absurd (omega (arith, e, k)))

pub link : (t : ℕ) (a b : List ℕ) → 16 ≤ t → t ≤ 19 → link_body.same a b ≡ same_body link_body t (body_without_numbers t a) (body_without_numbers t b)
link t a b l h = same_link t a b l h ∙ both t a b (λ k. absurd (omega (arith, l, k)))

pub other : (t : ℕ) (a b : List ℕ) → t ≢ 1 → t ≢ 2 → t ≢ 3 → (t < 16) ⊎ (19 < t) → bytes_eq a b ≡ same_body link_body t (body_without_numbers t a) (body_without_numbers t b)
other t a b n m k o = same_other t a b n k o ∙ both t a b m
