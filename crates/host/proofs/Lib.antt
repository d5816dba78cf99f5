pub mod Operands
pub mod Kept
