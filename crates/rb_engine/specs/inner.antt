pub mod LastChanges
pub mod Opening
pub mod KeptLocales
pub mod PathFields
pub mod KeptItems
