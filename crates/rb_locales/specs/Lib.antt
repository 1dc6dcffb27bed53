pub mod Locale
pub mod Words
pub mod inner
