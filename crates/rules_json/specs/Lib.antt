-- What a document of constraints is as a value, and how it is written.
pub mod Value
pub mod Written
-- All texts together
pub mod Files
-- A file in another edition
pub mod Twins
