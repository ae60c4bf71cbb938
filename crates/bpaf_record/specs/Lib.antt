pub mod Part
pub mod Record
pub mod Commands
pub mod Program
