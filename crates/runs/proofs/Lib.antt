pub mod Loop
pub mod MadeAhead
