pub mod ListTables
pub mod RowRules
