pub mod Said
pub mod Before
pub mod Promise
pub mod Whole
