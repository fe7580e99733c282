-- The corners of the definitions, computed by the checker: tables of examples, each with one statement.
-- Inputs of the entries, and the room that is lent
pub mod Corner
-- Words, and the limits
pub mod Words
pub mod Sizes
-- No bytes, no rows, no records; H and quarters
pub mod Empty
pub mod Horizon
-- CSV rows, in quotes or not; constraints.json
pub mod Csv
pub mod Quotes
pub mod Tokens
pub mod Documents
-- Inequalities and choices
pub mod Records
-- The lent tables, and what is left in them
pub mod Tables
pub mod Left
-- Display and merges
pub mod Display
pub mod Merges
