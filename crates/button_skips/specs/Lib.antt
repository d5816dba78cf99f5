pub mod ControlWords
