pub mod ControlWords
pub mod Setters
