pub mod Causes
pub mod Files
pub mod Reached
pub mod ShownUnits
