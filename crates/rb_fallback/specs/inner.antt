pub mod LevelResult
pub mod Steps
pub mod Budget
pub mod Stretches
pub mod Visits
pub mod PathScan
pub mod Reached
