-- What the answers of a report and of a merge rest on
pub mod Answers
-- The three demands
pub mod DemandOne
pub mod DemandTwo
pub mod DemandThree
-- Files in two editions
pub mod Twins
