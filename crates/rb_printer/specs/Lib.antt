pub mod Sign
pub mod Page
pub mod Sound
pub mod Whole
pub mod Words
pub mod inner
