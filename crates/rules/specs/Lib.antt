-- The law book: document 01, and what document 02 adds to it, as definitions, in the order in which a reader needs them.
pub mod Limits
pub mod Answers
pub mod Lists
pub mod Bytes
pub mod Rows
pub mod Timetable
pub mod Profiles
pub mod Kinds
pub mod Tokens
pub mod Constraints
pub mod Stated
pub mod Reading
pub mod Tally
pub mod Verdict
pub mod Energy
pub mod Merge
pub mod Earliest
pub mod Display
pub mod Entries
pub mod Duties
-- The worked examples: what ../proofs computes.
pub mod Computed
pub mod Examples
-- What the code's constructors answer, and the numbers that its constants are.
pub mod Made
pub mod Ties
-- What is lent to an entry, and what each entry promises.
pub mod Lent
pub mod Promises
