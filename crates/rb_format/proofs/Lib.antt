pub mod Checks
pub mod KeyFronts
pub mod Keys
pub mod Steps
pub mod Fronts
pub mod Levels
pub mod Faults
pub mod Cases
pub mod Growing
pub mod Grows
pub mod Plainly
pub mod Root
mod KeyOrder
