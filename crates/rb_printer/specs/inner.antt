pub mod Formed
pub mod Growth
pub mod Run
pub mod Least
pub mod Lexed
