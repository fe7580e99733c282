pub mod Chosen
pub mod Judged
