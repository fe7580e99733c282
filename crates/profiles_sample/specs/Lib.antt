pub mod Quick
pub mod Heads
