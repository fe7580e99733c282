pub mod Said
pub mod Judging
pub mod Differing
pub mod Going
pub mod Heading
pub mod Unpacking
pub mod Wholly
