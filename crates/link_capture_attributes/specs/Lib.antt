pub mod Attributes
pub mod AttributeViews
pub mod AttributeLaws
