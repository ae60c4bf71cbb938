pub mod Running
pub mod Commanding
