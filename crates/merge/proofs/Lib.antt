pub mod Standing
pub mod Texts
pub mod Verdicts
pub mod Solutions
pub mod OverFiles
