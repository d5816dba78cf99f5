pub mod Drawing
pub mod OneTurn
