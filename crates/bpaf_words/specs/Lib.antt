pub mod Arguments
pub mod Line
pub mod Splitting
