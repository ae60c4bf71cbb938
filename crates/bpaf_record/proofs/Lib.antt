pub mod FormLaws
pub mod Parts
pub mod Makes
pub mod GrammarSays
pub mod Surplus
pub mod Running
pub mod Answered
pub mod LookAlike
