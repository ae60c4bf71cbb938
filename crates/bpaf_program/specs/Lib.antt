pub mod Ending
pub mod KnownParser
pub mod Fields
pub mod OfCommands
