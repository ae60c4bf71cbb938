pub mod WordsBefore
pub mod Running
pub mod LookAlike
pub mod KnownParser
pub mod OfCommands
pub mod Texts
