use Rattle.std.proofs.Common.{◌≡◌, drop}
use Rattle.netlink_packet_core.specs.Named.{numbered_by}
use Rattle.link_message_types.specs.LinkLayerTypes.{link_layer_type_number}
use Rattle.link_message_types.specs.declared.link_layer_type.LinkLayerType.{LinkLayerType}
use Rattle.link_message_types.proofs.link_layer_type.numbered.Given as goal

abbrev pub invariant-loop-layer_type : goal.invariant-loop-layer_type
invariant-loop-layer_type l = numbered_by link_layer_type_number l.types (λ _. LinkLayerType.Void) l.number ≡ numbered_by link_layer_type_number (drop l.layer_type-index l.types) (λ _. LinkLayerType.Void) l.number
