pub mod AtPath
pub mod Earlier
pub mod Ended
pub mod Merging
pub mod Paths
pub mod Trails
pub mod Written
