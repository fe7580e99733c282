pub mod Near
pub mod Tables
pub mod Entering
pub mod Closing
pub mod Faults
