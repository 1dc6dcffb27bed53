pub mod Cases
pub mod Cells
pub mod Counts
pub mod Entering
pub mod FirstFaults
pub mod Marked
pub mod Packing
pub mod Upwards
pub mod SpanHeights
pub mod SpanNests
pub mod Shapes
pub mod Ways
pub mod Orders
pub mod Fronts
pub mod Ranking
pub mod Pairs
pub mod LeafRuns
mod Refusals
pub mod Measuring
mod Comparing
