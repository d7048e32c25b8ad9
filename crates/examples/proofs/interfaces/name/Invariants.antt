-- no attribute so far is a name
use Rattle.std.proofs.Common.{◌≡◌, drop}
use Rattle.examples.specs.Interfaces.{name_in_attributes}
use Rattle.examples.proofs.interfaces.name.Given as goal

abbrev pub invariant-loop-attribute : goal.invariant-loop-attribute
invariant-loop-attribute l = name_in_attributes l.message.attributes.items ≡ name_in_attributes (drop l.attribute-index l.message.attributes.items)
