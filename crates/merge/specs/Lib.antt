pub mod Left
pub mod Promise
