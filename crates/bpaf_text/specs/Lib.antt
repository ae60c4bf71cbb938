pub mod Meaning
pub mod Named
