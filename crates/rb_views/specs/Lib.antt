pub mod Trees
pub mod Parts
pub mod Seen
pub mod Root
pub mod inner
