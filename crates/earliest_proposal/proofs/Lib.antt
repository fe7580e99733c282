pub mod FilesLeft
pub mod Found
pub mod Restoring
pub mod Rulings
pub mod Texts
pub mod Ways
