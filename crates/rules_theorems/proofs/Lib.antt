-- The theorems over the definitions of `rules`.
-- Words about tests, lists and sums
pub mod DocumentWords
pub mod All
pub mod Each
pub mod Sums
pub mod Order
pub mod Parts
pub mod Sizes
pub mod Tabulate
-- Timetables and profiles: what a text that is read without refusal is, and that what is written is read back
pub mod GoodText
pub mod Forms
pub mod Samples
pub mod GoodRows
pub mod LawfulRows
pub mod Tables
pub mod Chosen
pub mod ReadBack
-- constraints.json: every document is lawful, and every fault has its place
pub mod Tokens
pub mod Run
pub mod Keys
pub mod Entries
pub mod OneMore
pub mod Phases
pub mod Documents
pub mod Ordered
-- All files together, in whatever room they are read, and how long a text can be
pub mod GoodFiles
pub mod AnyRoom
pub mod TextBound
-- The verdict and the merges
pub mod Verdicts
pub mod Tests
pub mod Merges
pub mod Curves
-- Energy: sums in every order, peaks, quarters, bounds, and the curve table made in place
pub mod Runs
pub mod Energies
pub mod Peaks
pub mod Quarters
pub mod Recuperation
pub mod Bounds
pub mod Laying
pub mod Headroom
pub mod Sized
-- The entries: which refusals they give, and that every input has one outcome
pub mod FileRefusals
pub mod Refusals
pub mod AlwaysRefused
pub mod OneOutcome
-- The three demands
pub mod Fills
pub mod DemandOne
pub mod DemandTwo
pub mod DemandThree
