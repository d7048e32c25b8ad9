use Rattle.std.proofs.Common.{arith}
use Rattle.link_interpreter.proofs.attribute.is_canonical_attribute.Goals as goal

pub returns : goal.returns
returns c = λ t. c.canonical_lists_unfold.ensures.padded _ _ _ (λ i. let b = c.type_inv.bytes i in omega (arith, b)) c.requires (c.is_padded.ensures t)

pub is_padded-requires : goal.is_padded-requires
is_padded-requires c = c.first_attributes_are_within.ensures.within _ _ _ c.requires
