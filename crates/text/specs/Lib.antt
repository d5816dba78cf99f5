pub mod Text
pub mod Adds
