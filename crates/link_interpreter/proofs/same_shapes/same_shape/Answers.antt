use Rattle.std.proofs.Common.{sym, ap, ◌∙◌}
use Rattle.attribute_tables_grammar.specs.Rules.{shape_rule}
use Rattle.link_tables.specs.Rows.{shape_of}
use Rattle.link_interpreter.proofs.SameShapes.{same_booleans}
use Rattle.link_interpreter.proofs.same_shapes.same_shape.Goals as goal

pub returns-in-BooleanIfNonzero : goal.returns-in-BooleanIfNonzero
returns-in-BooleanIfNonzero c =
    c.same_marks.ensures ∙ same_booleans c.args.left.now c.args.right.now
    ∙ ap (λ s. (shape_rule (shape_of s)).same c.args.left.now c.args.right.now) (sym c.in-BooleanIfNonzero.is)
