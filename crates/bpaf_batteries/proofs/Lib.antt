pub mod Keys
pub mod Toggling
pub mod Counting
