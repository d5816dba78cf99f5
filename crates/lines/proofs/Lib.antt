pub mod Reading
pub mod Prefix
