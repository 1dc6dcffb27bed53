pub mod Each
pub mod Errors
pub mod Starting
pub mod Status
pub mod Writing
