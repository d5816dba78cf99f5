pub mod Plain
pub mod Line
pub mod Bytes
