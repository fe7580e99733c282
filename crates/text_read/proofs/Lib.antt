pub mod Runs
pub mod Laws
pub mod Names
pub mod Digits
pub mod Values
