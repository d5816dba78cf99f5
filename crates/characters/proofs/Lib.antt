pub mod Codes
pub mod Kept
