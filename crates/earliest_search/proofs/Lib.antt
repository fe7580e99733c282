pub mod Findings
pub mod Moving
pub mod Visits
pub mod Passes
pub mod Beginning
pub mod Back
