pub mod Rooms
pub mod Words
