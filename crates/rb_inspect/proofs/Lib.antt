pub mod Causing
pub mod Finding
pub mod Looking
pub mod Reaching
pub mod Showing
pub mod Shown
