pub mod Rowed
pub mod Ruled
