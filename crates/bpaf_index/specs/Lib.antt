pub mod Bits
pub mod Chained
pub mod InsideChains
