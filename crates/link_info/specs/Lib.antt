pub mod LinkInfo
pub mod Laws
pub use Rattle.attribute_tables_grammar.specs.Laws as TableLaws
pub use Rattle.attribute_tables_grammar.specs.Lists
pub use Rattle.attribute_tables_grammar.specs.LookUps
pub use Rattle.attribute_tables_grammar.specs.Peers
pub use Rattle.attribute_tables_grammar.specs.Readings
pub use Rattle.attribute_tables_grammar.specs.Rows
pub use Rattle.attribute_tables_grammar.specs.Rules
pub use Rattle.attribute_tables_grammar.specs.Shapes
pub use Rattle.attribute_tables_grammar.specs.Tables
pub use Rattle.attribute_tables.specs.Beginnings
pub use Rattle.attribute_tables.specs.Views
pub use Rattle.attribute_tables.specs.Written
pub use Rattle.link_interpreter.specs.Peers as PeerMeasures
pub use Rattle.link_info_grammar.specs.Families
pub use Rattle.link_info_grammar.specs.KindNames
pub use Rattle.link_info_grammar.specs.Laws as GrammarLaws
pub use Rattle.link_info_grammar.specs.LinkInfo as InfoGrammar
pub use Rattle.link_info_types.specs.Laws as TypeLaws
pub use Rattle.link_info_types.specs.TunnelLaws
pub use Rattle.link_info_types.specs.IpVlanTypes
pub use Rattle.link_info_types.specs.IpoibTypes
pub use Rattle.link_info_types.specs.MacSecTypes
pub use Rattle.link_info_types.specs.MacVlanTypes
pub use Rattle.link_info_types.specs.NetkitTypes
pub use Rattle.link_info_types.specs.RmNetTypes
pub use Rattle.link_info_types.specs.AmtTypes
pub use Rattle.link_info_types.specs.GeneveTypes
pub use Rattle.link_info_types.specs.GreTypes
pub use Rattle.link_info_types.specs.GtpTypes
pub use Rattle.link_info_types.specs.IpProtocols
pub use Rattle.link_info_types.specs.IpTunnelTypes
pub use Rattle.link_info_types.specs.VxlanTypes
pub use Rattle.link_info_devices.specs.Netkit
pub use Rattle.link_info_devices.specs.Veth
pub use Rattle.link_info_devices.specs.MacVlan
pub use Rattle.link_info_devices.specs.Macsec
pub use Rattle.link_info_tunnels.specs.Bareudp
pub use Rattle.link_info_tunnels.specs.Gre
pub use Rattle.link_info_tunnels.specs.Gre6
pub use Rattle.link_info_tunnels.specs.IpTunnel
pub use Rattle.link_info_tunnels.specs.Vti
pub use Rattle.link_info_tunnels.specs.Xfrm
pub use Rattle.link_info_devices.specs.Batadv
pub use Rattle.link_info_devices.specs.Ipoib
pub use Rattle.link_info_devices.specs.Ipvlan
pub use Rattle.link_info_devices.specs.Rmnet
pub use Rattle.link_info_devices.specs.Vrf
pub use Rattle.link_info_devices.specs.Wwan
pub use Rattle.link_info_tunnels.specs.Amt
pub use Rattle.link_info_tunnels.specs.Geneve
pub use Rattle.link_info_tunnels.specs.Gtp
pub use Rattle.link_info_tunnels.specs.Vxlan
pub use Rattle.link_info_devices.specs.RawData
pub use Rattle.link_info_kinds.specs.Kinds
pub use Rattle.link_info_kinds.specs.Laws as KindLaws
pub use Rattle.link_info_kinds.specs.PortKinds
pub use Rattle.link_interpreter.specs.Measures as ListMeasures
pub use Rattle.link_info_data.specs.Data
pub use Rattle.link_info_data.specs.Laws as DataLaws
pub use Rattle.link_info_data.specs.PortData
pub use Rattle.link_info_data.specs.Xstats
