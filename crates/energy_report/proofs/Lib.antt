pub mod Cases
pub mod OfTables
pub mod Reporting
