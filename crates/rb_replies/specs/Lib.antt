pub mod Replied
pub mod Within
pub mod inner
pub mod Extended
