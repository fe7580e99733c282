-- What is said to people, as bytes.
pub mod Numbers
pub mod Times
pub mod Energies
pub mod Needs
pub mod Names
pub mod Tallies
pub mod Shown
-- Computed.
pub mod Examples
