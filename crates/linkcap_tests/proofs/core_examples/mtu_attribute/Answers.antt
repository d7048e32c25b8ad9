-- an attribute with a payload of four bytes has eight bytes
use Rattle.std.proofs.Common.{refl, ◌∙◌, arith}
use Rattle.netlink_packet_core.specs.Numbers.{le4}
use Rattle.netlink_packet_core.specs.Attributes.{attribute_text}
use Rattle.linkcap_tests.proofs.core_examples.mtu_attribute.Goals as goal

pub emit-requires-clause-fits : goal.emit-requires-clause-fits
unfolding le4
emit-requires-clause-fits c = refl

pub emit-requires-clause-capacity : goal.emit-requires-clause-capacity
unfolding le4
emit-requires-clause-capacity c = omega arith

pub returns : goal.returns
unfolding attribute_text le4
returns c = c.emit.ensures ∙ refl
