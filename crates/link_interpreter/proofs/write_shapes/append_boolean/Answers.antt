use Rattle.std.proofs.Common.{◌++◌, [], ◌∷◌, ap, ◌∙◌}
use Rattle.attribute_tables_grammar.specs.Shapes.{number}
use Rattle.link_interpreter.proofs.SameShapes.{boolean_byte}
use Rattle.link_interpreter.proofs.write_shapes.append_boolean.Goals as goal

pub returns-clause-text : goal.returns-clause-text
returns-clause-text c = c.append.ensures.text ∙ ap (λ n. c.args.out.now.items ++ n ∷ 0 ∷ 0 ∷ 0 ∷ []) (c.from.ensures ∙ boolean_byte (number c.args.number.now) c.is_zero.result c.is_zero.ensures)
