pub mod Keys
pub mod Toggle
pub mod Verbosity
pub mod Usage
