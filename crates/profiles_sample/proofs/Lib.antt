pub mod Looks
pub mod Heads
