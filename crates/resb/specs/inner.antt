pub mod Changes
pub mod Query
