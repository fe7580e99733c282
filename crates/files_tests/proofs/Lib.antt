pub mod Counts
pub mod Holding
pub mod Fifteen
pub mod Apart
pub mod Fronts
