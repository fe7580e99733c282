pub mod Sample
pub mod Near
pub mod Row
