pub mod Choosing
pub mod Judging
