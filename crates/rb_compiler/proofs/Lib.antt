pub mod Ints
pub mod Sites
pub mod Visiting
