pub mod OneSpelling
pub mod LineLemmas
pub mod OneLine
