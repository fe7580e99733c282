pub mod Filing
pub mod After
