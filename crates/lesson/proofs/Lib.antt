pub mod Answer
pub mod LongInput
