pub mod Missing
pub mod Messages
pub mod Failure
pub mod Situation
pub mod Inside
pub mod Marks
pub mod Taking
