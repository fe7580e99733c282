pub mod Open
pub mod Held
pub mod Ended
pub mod Promise
pub mod Text
pub mod Entries
