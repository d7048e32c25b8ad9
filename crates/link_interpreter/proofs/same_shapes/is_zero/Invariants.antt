use Rattle.std.proofs.Common.{◌≡◌, ◌==◌, drop}
use Rattle.attribute_tables_grammar.specs.Shapes.{number}
use Rattle.link_interpreter.proofs.same_shapes.is_zero.Given as goal

abbrev pub invariant-loop-byte : goal.invariant-loop-byte
invariant-loop-byte l = record { rest : (number (drop l.byte-index l.bytes) == 0) ≡ (number l.bytes == 0) }
