pub mod ControlCharacters
pub mod Setters
