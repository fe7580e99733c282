pub mod LegSteps
pub mod LegsLaid
pub mod BeforeSteps
pub mod Figured
pub mod Reading
