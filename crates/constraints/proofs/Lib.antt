pub mod Filling
pub mod Going
pub mod Both
