pub mod Tabulated
pub mod Views
pub mod Offers
