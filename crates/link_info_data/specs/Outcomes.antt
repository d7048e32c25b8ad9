-- Outcomes of reading the data of links and ports, for contracts.
use Rattle.std.specs.Prelude.{ℕ, List, Result}
use Rattle.netlink_packet_core.specs.declared.DecodeError.{DecodeError}
use Rattle.attribute_tables.specs.Outcomes.{IsPayloadRead}
use Rattle.attribute_tables_grammar.specs.Rules.{Rule}
use Rattle.link_info_kinds.specs.declared.info_kind.InfoKind.{InfoKind}
use Rattle.link_info_kinds.specs.declared.info_port_kind.InfoPortKind.{InfoPortKind}
use Rattle.link_info_data.specs.Data.{info_data_fits, info_data_is_row_variant, info_data_payload}
use Rattle.link_info_data.specs.PortData.{info_port_data_fits, info_port_data_is_row_variant, info_port_data_payload}
use Rattle.link_info_data.specs.declared.info_data.InfoData.{InfoData}
use Rattle.link_info_data.specs.declared.info_port.InfoPortData.{InfoPortData}

-- The data of a kind were read under a rule.
abbrev pub IsDataRead : Result InfoData DecodeError → InfoKind → Rule → List ℕ → Type 0
IsDataRead result kind rule payload =
    IsPayloadRead result info_data_payload info_data_fits (info_data_is_row_variant kind) rule payload

-- The data of a port kind were read under a rule.
abbrev pub IsPortDataRead : Result InfoPortData DecodeError → InfoPortKind → Rule → List ℕ → Type 0
IsPortDataRead result kind rule payload =
    IsPayloadRead result info_port_data_payload info_port_data_fits (info_port_data_is_row_variant kind) rule payload
