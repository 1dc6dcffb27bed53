pub mod OneFile
pub mod Histories
pub mod StepLemmas
pub mod Lookups
pub mod Opening
pub mod StayingOpen
pub mod Starting
pub mod Keeping
pub mod Bounded
pub mod Unread
pub mod KeptOpen
mod Places
pub mod KeptFound
pub mod Finding
pub mod OpenBounded
mod LastChanges
