pub mod Options
pub mod Fold
pub mod Lines
pub mod Number
pub mod Marks
pub mod Names
pub mod Machine
pub mod Contents
