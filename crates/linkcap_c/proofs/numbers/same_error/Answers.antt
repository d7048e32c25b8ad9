use Rattle.std.proofs.Common.{◌-◌, length, take, drop, sym, ap, ◌∙◌}
use Rattle.std.specs.Prelude.{bytes_eq}
use Rattle.std.proofs.lemmas.List.{take_rest}
use Rattle.linkcap_c.proofs.Errors.{other_lengths, both_short, equal_fronts, other_fronts}
use Rattle.linkcap_c.proofs.numbers.same_error.Goals as goal
use Rattle.linkcap_c.proofs.numbers.same_error.Goals.{then-left-right-via-then-left-right, then-left-right-via-else-left-right+then-left-lt-REPEATED_LEN}

pub returns-then-left-right : goal.returns-then-left-right
returns-then-left-right c =
    c.eq.ensures ∙ elim c.then-left-right.branch [
      | then-left-right-via-then-left-right w ↦ other_lengths c.args.left.now c.args.right.now w.if-left-right.true
      | then-left-right-via-else-left-right+then-left-lt-REPEATED_LEN w ↦ both_short c.args.left.now c.args.right.now w.if-left-right.false w.if-left-lt-REPEATED_LEN.true
    ]

pub returns-then-eq : goal.returns-then-eq
returns-then-eq c =
    let a = c.args.left.now in
    let b = c.args.right.now in
    c.eq-then-eq.ensures ∙ ap (λ x. bytes_eq x (take (length b - 20) (drop 20 b))) (take_rest a 20) ∙ ap (bytes_eq (drop 20 a)) (take_rest b 20) ∙ equal_fronts a b c.if-left-right.false c.if-left-lt-REPEATED_LEN.false (sym c.eq-2.ensures ∙ c.if-eq.true)

pub returns-else-eq : goal.returns-else-eq
returns-else-eq c =
    c.if-eq.false ∙ other_fronts c.args.left.now c.args.right.now c.if-left-right.false c.if-left-lt-REPEATED_LEN.false (sym c.eq-2.ensures ∙ c.if-eq.false)
