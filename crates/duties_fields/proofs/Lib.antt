pub mod Quoted
pub mod Pieces
pub mod Naming
pub mod Times
