pub mod Statement
pub mod Search
pub mod Outcomes
