pub mod Room
pub mod Run
pub mod Spelled
pub mod Listed
pub mod Lines
