pub mod Filing
pub mod Filled
