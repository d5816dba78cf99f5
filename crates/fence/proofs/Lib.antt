pub mod Agreeing
pub mod Keeping
pub mod Freeing
pub mod Calls
