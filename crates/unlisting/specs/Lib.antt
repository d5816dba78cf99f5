pub mod Unlisting
pub mod Passes
pub mod Together
