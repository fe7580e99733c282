pub mod Placing
pub mod Places
pub mod DutyPlaces
