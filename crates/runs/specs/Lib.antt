pub mod Ahead
pub mod Runs
