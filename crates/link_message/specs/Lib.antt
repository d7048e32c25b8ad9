pub use Rattle.link_message_grammar.specs.Body
pub use Rattle.link_message_grammar.specs.Laws as GrammarLaws
pub use Rattle.link_message_grammar.specs.LinkMessage as LinkTables
pub use Rattle.link_message_types.specs.AddressFamilies
pub use Rattle.link_message_types.specs.Events
pub use Rattle.link_message_types.specs.ExtentMasks
pub use Rattle.link_message_types.specs.Headers
pub use Rattle.link_message_types.specs.Inet6Types
pub use Rattle.link_message_types.specs.Laws as TypeLaws
pub use Rattle.link_message_types.specs.LinkFlagTypes
pub use Rattle.link_message_types.specs.LinkLayerTypes
pub use Rattle.link_message_types.specs.LinkModes
pub use Rattle.link_message_types.specs.LinkStates
pub use Rattle.link_message_types.specs.MctpTypes
pub use Rattle.link_message_types.specs.PhysIds
pub use Rattle.link_message_types.specs.VfTypes
pub use Rattle.link_message_types.specs.VlanTypes
pub use Rattle.link_message_types.specs.XdpTypes
pub use Rattle.link_message_attributes.specs.LinkAttributes
pub use Rattle.link_message_attributes.specs.declared.attributes.LinkAttribute
pub use Rattle.link_message_types.specs.declared.address_family.AddressFamily
pub use Rattle.link_message_types.specs.declared.header.LinkHeader
pub use Rattle.link_message_types.specs.declared.link_flag.LinkFlags
pub use Rattle.link_message_types.specs.declared.link_layer_type.LinkLayerType
pub mod EqualTexts
pub mod Injective
pub mod LinkMessages
pub use Rattle.link_message_checks.specs.Measures as BodyMeasures
pub use Rattle.link_message_grammar.specs.NestedTables
pub use Rattle.link_message_nested.specs.AddressFamilies as SpecificFamilies
pub use Rattle.link_message_nested.specs.InetSettings
pub use Rattle.link_message_nested.specs.Inet6Settings
pub use Rattle.link_message_nested.specs.Devlink
pub use Rattle.link_message_nested.specs.DownReasons
pub use Rattle.link_message_nested.specs.Dpll
pub use Rattle.link_message_nested.specs.Mctp
pub use Rattle.link_message_nested.specs.Props
pub use Rattle.link_message_nested.specs.ProtocolInfos
pub use Rattle.link_message_nested.specs.Xdp
pub use Rattle.link_message_records.specs.CacheInfos
pub use Rattle.link_message_records.specs.Maps
pub use Rattle.link_message_records.specs.ValueRecords
pub use Rattle.link_message_records.specs.VfRecords
pub use Rattle.link_message_records.specs.VfSettings
pub use Rattle.link_message_nested.specs.VfInfos
pub use Rattle.link_message_nested.specs.VfPorts
pub use Rattle.link_message_nested.specs.VfStatistics
pub use Rattle.link_message_nested.specs.VfVlans
