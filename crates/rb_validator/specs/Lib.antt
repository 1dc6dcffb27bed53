pub mod TextBlocks
pub mod Visits
pub mod inner
