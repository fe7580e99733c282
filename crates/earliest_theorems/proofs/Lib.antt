pub mod Soonest
pub mod Late
pub mod Search
pub mod Proposed
pub mod AnyOrder
pub mod OfFiles
pub mod Ways
pub mod Outcomes
