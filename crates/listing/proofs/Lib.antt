pub mod Going
pub mod Unrefused
pub mod Answers
pub mod Longest
