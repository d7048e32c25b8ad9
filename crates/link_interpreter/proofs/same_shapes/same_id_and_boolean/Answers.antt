use Rattle.std.proofs.Common.{sym, ◌∙◌}
use Rattle.std.proofs.lemmas.Slice.Eq.{bytes_eq-Decides}
use Rattle.link_interpreter.proofs.SameShapes.{same_after}
use Rattle.link_interpreter.proofs.same_shapes.same_id_and_boolean.Goals as goal

pub returns-then-eq : goal.returns-then-eq
returns-then-eq c =
    same_after _ _ _ _ _ _ _ _ c.first-id.ensures c.first-other.ensures c.first-boolean.ensures c.first.ensures ((bytes_eq-Decides _ _).0 (sym c.eq.ensures ∙ c.if-eq.true)) c.is_zero.ensures c.is_zero-then-eq.ensures
