pub mod Balance
pub mod Keeping
pub mod Outcomes
pub mod Refusals
