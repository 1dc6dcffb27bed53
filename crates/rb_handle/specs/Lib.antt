pub mod BundleHandle
pub mod Handle
pub mod Stored
