pub mod Refusing
pub mod CheckWays
pub mod ReportWays
pub mod MergeWays
pub mod Unique
