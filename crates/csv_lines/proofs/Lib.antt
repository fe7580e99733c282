pub mod Shown
pub mod RowPlaces
pub mod Clearing
