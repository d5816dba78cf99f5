pub mod TableLaws
pub mod Table
pub mod Going
pub mod Lengths
