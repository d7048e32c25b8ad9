pub mod QuirkTexts
pub mod QuirkRows
pub mod QuirkTables
pub mod QuirkLists
pub mod CaptureQuirks
pub mod QuirkWalks
pub mod QuirkLaws
pub mod TextLaws
