-- A measure determines whether its rule accepts the bytes.
use Rattle.std.proofs.Common.{◌≡◌, ℕ, List, Option, Some, None, sym}
use Rattle.std.specs.Prelude.{option_map, is_some}
use Rattle.attribute_tables_grammar.specs.Rules.{Rule}
use Rattle.attribute_tables_grammar.specs.Walks.{measure}
use Rattle.attribute_tables_grammar.specs.Laws.{MeasuresDetermineRules}
use Rattle.link_interpreter.specs.Measures.{view}
use Rattle.link_interpreter.specs.declared.shapes.Measured.{Measured}

pub some_accepted : MeasuresDetermineRules → (r : Rule) (bytes : List ℕ) (o : Option Measured) → option_map view o ≡ measure r bytes → is_some o ≡ r.accepted bytes
some_accepted laws r bytes None h = sym (laws.rejects r bytes h)
some_accepted laws r bytes (Some m) h = sym (laws.determines r bytes (view m) h).accepted
