pub mod Starts
pub mod Clear
