pub mod Got
pub mod Looking
pub mod Words
pub mod inner
