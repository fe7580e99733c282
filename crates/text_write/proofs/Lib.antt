pub mod Stores
pub mod Writing
pub mod Growing
pub mod Spelling
