pub mod Exact
pub mod Parts
pub mod Seen
pub mod Quarters
pub mod Bits
