pub mod LastUnderscore
pub mod NameFields
pub mod Narrow
pub mod Padded
pub mod Positions
