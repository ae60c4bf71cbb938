pub mod Looking
pub mod Opening
