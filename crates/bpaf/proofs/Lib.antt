pub mod LeafLemmas
pub mod Sides
pub mod Asked
pub mod HandsOn
pub mod Remembering
