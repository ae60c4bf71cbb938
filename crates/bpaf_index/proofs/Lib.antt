pub mod BitSets
pub mod Chained
