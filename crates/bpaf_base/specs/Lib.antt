pub mod Count
pub mod InsideText
pub mod Items
pub mod Names
