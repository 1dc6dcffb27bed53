pub mod Arranged
pub mod Text
pub mod inner
