pub mod Containers
pub mod Longest
pub mod Header
pub mod Bytes
pub mod Values
pub mod KeyList
pub mod Written
pub mod inner
