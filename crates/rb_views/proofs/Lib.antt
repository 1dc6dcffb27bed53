pub mod Values
pub mod Readings
pub mod TreeKinds
pub mod Contents
pub mod Containers
pub mod Halving
pub mod RootItem
