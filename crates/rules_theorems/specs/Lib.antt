-- What the theorems state over the definitions of `rules`.
-- Lists, and the numbers of document 01's table
pub mod Lists
pub mod Numbers
-- Timetables, profiles and constraints.json that are read without refusal, and all of them together
pub mod Samples
pub mod WellFormed
pub mod LawfulDocument
pub mod Files
-- The verdict's tests, sizes of an accepted solution, and how its curves are made
pub mod Tests
pub mod Sized
pub mod Laying
-- The entries: their refusals and their outcomes
pub mod Cases
pub mod Outcomes
-- The three demands
pub mod Demands
