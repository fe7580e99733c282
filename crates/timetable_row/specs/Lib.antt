pub mod Digits
pub mod Slots
pub mod RowOver
pub mod Faults
