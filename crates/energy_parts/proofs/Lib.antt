pub mod Once
pub mod Patterns
pub mod Listed
pub mod SideSums
pub mod Lookup
pub mod WindowSums
pub mod QuarterSteps
pub mod QuarterSums
