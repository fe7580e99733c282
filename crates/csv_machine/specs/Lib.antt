pub mod Fold
pub mod Number
pub mod Marks
pub mod Names
pub mod Machine
pub mod Contents
