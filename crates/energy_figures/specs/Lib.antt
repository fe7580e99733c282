pub mod Given
pub mod Legs
pub mod Before
pub mod Worked
