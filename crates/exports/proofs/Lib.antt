pub mod Defined
pub mod Unique
pub mod DutiesTold
