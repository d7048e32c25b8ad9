pub mod ReasonTexts
pub mod Refusals
pub mod RefusalTexts
pub mod RefusalViews
pub mod RefusalLaws
