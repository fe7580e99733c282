pub mod Feeds
pub mod Reads
