pub mod Reads
pub mod ReadsBundle
pub mod Rows
pub mod Views
