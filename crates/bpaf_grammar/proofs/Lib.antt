pub mod Sparing
pub mod Naming
pub mod Inside
pub mod Choices
pub mod Promises
