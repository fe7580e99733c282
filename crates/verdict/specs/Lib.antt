pub mod Found
pub mod Within
