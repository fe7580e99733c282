pub mod Spellings
pub mod Texts
pub mod Decimals
pub mod Needing
pub mod Lines
