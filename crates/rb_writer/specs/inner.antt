pub mod Collected
pub mod Growth
pub mod Keyed
pub mod Keying
pub mod Most
pub mod Places
pub mod Standing
pub mod Whole
