pub mod Form
pub mod Numeral
pub mod Good
pub mod Faults
pub mod Reading
pub mod Tests
pub mod Shape
