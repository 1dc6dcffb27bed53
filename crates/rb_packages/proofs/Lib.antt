pub mod Clones
pub mod Drafts
pub mod Filled
pub mod Lists
pub mod Names
pub mod Sums
