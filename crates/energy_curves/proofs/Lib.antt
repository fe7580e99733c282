pub mod CurveSums
pub mod Totals
pub mod Adding
pub mod Cutting
pub mod Homes
