pub mod Left
pub mod Proposal
pub mod Text
