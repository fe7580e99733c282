pub mod Numbers
pub mod Places
pub mod Duties
pub mod Exported
