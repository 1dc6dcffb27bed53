pub mod Texts
pub mod Scans
pub mod Paths
pub mod AppendedUnits
pub mod PathBuffers
pub mod Follows
pub mod Links
pub mod StopReads
pub mod Levels
pub mod NeverBadPath
pub mod GivenStops
mod Budgets
pub mod FewSteps
pub mod Stretches
pub mod SameStops
pub mod PathScans
pub mod AliasScans
