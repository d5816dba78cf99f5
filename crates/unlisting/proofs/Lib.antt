pub mod Beginnings
pub mod Passing
pub mod Answers
pub mod Belonging
