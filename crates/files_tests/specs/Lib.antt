pub mod Counts
pub mod Subnets
