pub mod Promise
pub mod Left
