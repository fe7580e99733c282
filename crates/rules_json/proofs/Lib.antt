-- The theorems over constraints.json as a value and as a text.
-- Names, and sets of them as numbers
pub mod Names
pub mod Sets
-- Tokens and pieces; a value's tests one after the other, and what it adds to a document
pub mod Same
pub mod Passes
pub mod Means
pub mod Grows
-- A text and its tokens
pub mod Text
pub mod Shown
-- Completeness: the automaton over the tokens of a value
pub mod Turns
pub mod Members
pub mod Lists
pub mod Fine
pub mod Completeness
pub mod Example
-- Soundness: what is left of a value in each phase, row by row
pub mod Inverse
pub mod Left
pub mod Rows
pub mod Soundness
pub mod OneValue
-- All texts together
pub mod Files
-- A file in another edition
pub mod Twins
