pub mod Heading
pub mod Byte
pub mod Part
pub mod FirstLine
pub mod Below
