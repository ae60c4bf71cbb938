pub mod Leftover
pub mod Phrases
pub mod Rendering
