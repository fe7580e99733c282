pub mod Keys
pub mod ByAction
