pub mod Scan
pub mod Here
pub mod Named
pub mod Chosen
