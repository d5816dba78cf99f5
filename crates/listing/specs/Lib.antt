pub mod Listing
pub mod Measuring
