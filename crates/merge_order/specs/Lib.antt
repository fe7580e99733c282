pub mod Order
pub mod Both
