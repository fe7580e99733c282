pub mod Demands
-- Files in two editions
pub mod Twins
