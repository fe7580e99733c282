pub mod Putting
pub mod Places
pub mod InOrder
pub mod ByKind
