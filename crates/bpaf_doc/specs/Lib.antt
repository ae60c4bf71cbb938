pub use Rattle.bpaf_base.specs.Names
pub mod KeptHelp
pub mod Print
pub mod Shape
pub mod Default
