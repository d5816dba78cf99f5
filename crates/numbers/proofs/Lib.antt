pub mod Laid
mod Back
mod Again
