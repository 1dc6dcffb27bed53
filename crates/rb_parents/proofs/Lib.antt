pub mod Shelves
pub mod Trails
pub mod Explicits
pub mod ParentMaps
pub mod FirstErrors
pub mod OneReading
pub mod Children
