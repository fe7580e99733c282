pub mod Seeking
pub mod Packed
pub mod Raising
