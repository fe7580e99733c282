pub mod Open
pub mod Holds
