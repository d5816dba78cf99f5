pub mod Rows
pub mod Motions
