-- Data of kinds of ports with equal payloads are equal.
use Rattle.std.proofs.Common.{◌≡◌, Bool, true, arith}
use lib.Pointwise.{bytes_decides}
use Rattle.link_info_kinds.specs.PortKinds.{listed_port_kind}
use Rattle.link_info_kinds.specs.declared.info_port_kind.InfoPortKind.{InfoPortKind}
use Rattle.link_info_kinds.specs.declared.info_port_kind.InfoPortKind.TheVariants as PortKind
use Rattle.link_info_data.specs.PortData.{info_port_data_payload, info_port_data_is_row_variant}
use Rattle.link_info_data.specs.declared.info_port.InfoPortData.{InfoPortData}
use Rattle.link_info_data.specs.declared.info_port.InfoPortData.TheVariants as PortData
use Rattle.link_info_data.specs.contracts.info_port.InfoPortDataPartialEq.TheImpl as equality
use Rattle.link_message.proofs.Lists.{lists_injective}
use Rattle.link_message.proofs.InfoData.RawData
use Rattle.link_message.proofs.InfoData.Vrf.{vrf_injective}

abbrev equal : InfoPortData → InfoPortData → Bool
equal = (equality.ghosts).eq

pub port_data_injective : (k m : InfoPortKind) (d e : InfoPortData) → listed_port_kind k ≡ listed_port_kind m → info_port_data_is_row_variant k d → info_port_data_is_row_variant m e → info_port_data_payload d ≡ info_port_data_payload e → equal d e ≡ true
port_data_injective PortKind.Bond PortKind.Bond (PortData.BondPort x) (PortData.BondPort y) l p q e = RawData.lists_injective _ (record { fits = omega arith }) x.items y.items e
port_data_injective PortKind.Bridge PortKind.Bridge (PortData.BridgePort x) (PortData.BridgePort y) l p q e = RawData.lists_injective _ (record { fits = omega arith }) x.items y.items e
port_data_injective PortKind.Team PortKind.Team (PortData.TeamPort x) (PortData.TeamPort y) l p q e = RawData.lists_injective _ (record { fits = omega arith }) x.items y.items e
port_data_injective PortKind.Vrf PortKind.Vrf (PortData.VrfPort x) (PortData.VrfPort y) l p q e = lists_injective _ _ _ vrf_injective x.items y.items p q e
port_data_injective (PortKind.Other s) (PortKind.Other t) (PortData.Other x) (PortData.Other y) l p q e = (bytes_decides x.items y.items).1 e
port_data_injective k m d f l p q e = absurd (first_of (assumption, cc))
