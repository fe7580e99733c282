pub mod Curves
pub mod Room
