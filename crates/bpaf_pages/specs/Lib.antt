pub mod Help
pub mod InsideLine
pub mod InsideHelp
