pub mod Forming
pub mod Testing
pub mod Ruling
