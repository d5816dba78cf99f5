pub mod Bare
pub mod Obeying
