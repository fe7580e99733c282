pub mod Follow
pub mod Moves
pub mod Rows
pub mod Late
