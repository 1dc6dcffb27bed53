pub mod Added
pub mod Left
pub mod Passing
