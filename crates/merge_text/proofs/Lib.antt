pub mod Merging
pub mod Filled
