pub mod Pieces
pub mod Flat
pub mod Parts
pub mod ProgramForm
pub mod Says
