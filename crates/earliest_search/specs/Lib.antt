pub mod Starting
pub mod Searching
pub mod WayOut
