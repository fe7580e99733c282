pub mod Walking
pub mod Bumping
