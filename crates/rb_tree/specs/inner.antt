pub mod Codes
pub mod Lower
pub mod Arranged
