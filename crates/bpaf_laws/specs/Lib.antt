pub mod Reading
pub mod Laws
pub mod Leaves
pub mod Combinators
pub mod Choice
pub mod Product
pub mod Adjacent
pub mod Command
