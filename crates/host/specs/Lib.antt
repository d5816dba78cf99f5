pub mod Accepts
pub mod HostOperations
