pub mod Rows
pub mod Limits
pub mod Asking
pub mod inner
