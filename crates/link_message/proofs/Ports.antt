-- Ports of virtual functions, and information of protocols, with equal attributes are equal.
use Rattle.std.proofs.Common.{sym, ap, ◌∙◌}
use Rattle.netlink_packet_core.specs.Attributes.{Attribute}
use Rattle.link_message_nested.specs.ProtocolInfos.{link_proto_info_inet_6_entry}
use Rattle.link_message_nested.specs.VfPorts.{vf_port_entry, link_vf_port_entry}
use Rattle.link_message_nested.specs.declared.proto_info.LinkProtoInfoInet6.TheVariants as Protocol
use Rattle.link_message_nested.specs.declared.vf_port.VfPort.TheVariants as Port
use Rattle.link_message_nested.specs.contracts.proto_info.LinkProtoInfoInet6PartialEq.TheImpl as protocol_equality
use Rattle.link_message_nested.specs.contracts.proto_info.LinkProtoInfoInet6Eq.TheImpl.Laws as protocol_laws
use Rattle.link_message_nested.specs.contracts.vf_port.LinkVfPortPartialEq.TheImpl as vf_port_equality
use Rattle.link_message_nested.specs.contracts.vf_port.VfPortPartialEq.TheImpl as port_equality
use Rattle.link_message_nested.specs.contracts.vf_port.VfPortEq.TheImpl.Laws as port_laws
use Rattle.link_message.specs.Injective.{IsInjective}
use Rattle.link_message.proofs.Lists.{lists_injective}

pub port_injective : IsInjective (port_equality.ghosts).eq vf_port_entry (λ _. Unit {0})
port_injective (Port.Other x) (Port.Other y) p q e = ap (λ a. (port_equality.ghosts).eq (Port.Other x) (Port.Other a)) (sym e) ∙ port_laws.laws-law.refl (Port.Other x)

pub protocol_injective : IsInjective (protocol_equality.ghosts).eq link_proto_info_inet_6_entry (λ _. Unit {0})
protocol_injective (Protocol.Other x) (Protocol.Other y) p q e = ap (λ a. (protocol_equality.ghosts).eq (Protocol.Other x) (Protocol.Other a)) (sym e) ∙ protocol_laws.laws-law.refl (Protocol.Other x)

pub ports_injective : IsInjective (vf_port_equality.ghosts).eq link_vf_port_entry (λ _. Unit {0})
ports_injective v w p q e = lists_injective _ vf_port_entry (λ _. Unit {0}) port_injective v.0.items w.0.items (λ _ _ _. tt) (λ _ _ _. tt) (ap (λ (a : Attribute). a.payload) e)
