pub mod EqualTravel
