pub mod NestedTables
pub mod LinkMessage
pub mod Body
pub mod Laws
pub use Rattle.attribute_tables_grammar.specs.Peers
