pub mod Agreement
pub mod Leaves
pub mod Lookups
pub mod Merged
pub mod inner
