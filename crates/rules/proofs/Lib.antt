-- The laws of the definitions that readers and writers cite.
-- Tests, lists, pieces of texts, numbers and their spelling
pub mod Truth
pub mod Lists
pub mod Pieces
pub mod Numbers
-- The tokens of constraints.json, the table of kinds, and what a caller states
pub mod TokenLaws
pub mod KindRule
-- The worked examples, computed
pub mod Examples
pub mod DutyExamples
pub mod EarliestExamples
