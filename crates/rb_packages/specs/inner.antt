pub mod AppFields
pub mod Names
