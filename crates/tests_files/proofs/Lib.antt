pub mod Read
pub mod JsonTexts
pub mod JsonTrees
pub mod Looks
