pub mod ArgumentsAsked
pub mod Reporting
pub mod NotesWritten
