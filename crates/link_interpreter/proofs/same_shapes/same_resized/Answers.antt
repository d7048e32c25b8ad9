use Rattle.std.proofs.Common.{true, false, sym, ◌∙◌}
use Rattle.link_interpreter.proofs.SameShapes.{by_rests, by_prefix}
use Rattle.link_interpreter.proofs.same_shapes.same_resized.Goals as goal
use Rattle.link_interpreter.proofs.same_shapes.same_resized.Goals.{then-eq, else-eq}

pub returns-then-is_zero : goal.returns-then-is_zero
returns-then-is_zero c =
    elim c.if-eq.branch [
      | then-eq w ↦
          c.is_zero-then-is_zero.ensures
          ∙ by_rests _ _ _ _ _ _ c.first-left.ensures c.first-right.ensures c.min-common.ensures true (sym c.eq.ensures ∙ w.if-eq.true) (sym w.is_zero.ensures ∙ sym w.value-is ∙ c.if-is_zero.true)
      | else-eq w ↦ absurd cc
    ]

pub returns-else-is_zero : goal.returns-else-is_zero
returns-else-is_zero c =
    elim c.if-eq.branch [
      | then-eq w ↦
          c.if-is_zero.false
          ∙ by_rests _ _ _ _ _ _ c.first-left.ensures c.first-right.ensures c.min-common.ensures false (sym c.eq.ensures ∙ w.if-eq.true) (sym w.is_zero.ensures ∙ sym w.value-is ∙ c.if-is_zero.false)
      | else-eq w ↦ c.if-is_zero.false ∙ by_prefix _ _ _ _ _ _ c.first-left.ensures c.first-right.ensures c.min-common.ensures (sym c.eq.ensures ∙ w.if-eq.false)
    ]
