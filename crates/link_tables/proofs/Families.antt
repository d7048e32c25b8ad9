-- Families by number.
use Rattle.std.proofs.Common.{◌≡◌, ℕ, cond, sym, ap, ◌∙◌}
use Rattle.std.specs.Prelude.{◌==◌}
use Rattle.std.proofs.lemmas.Bool.{ne_eqb}
use Rattle.link_message_grammar.specs.LinkMessage.{family_of, other, bridge, inet_6, unspec}

pub family_other : (n : ℕ) → (n ≡ 0 → ⊥) → (n ≡ 7 → ⊥) → (n ≡ 10 → ⊥) → other ≡ family_of n
family_other n a b c =
    sym (ap (λ x. cond x unspec (cond (n == 7) bridge (cond (n == 10) inet_6 other))) (ne_eqb n 0 a)
    ∙ ap (λ x. cond x bridge (cond (n == 10) inet_6 other)) (ne_eqb n 7 b)
    ∙ ap (λ x. cond x inet_6 other) (ne_eqb n 10 c))
