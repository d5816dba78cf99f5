pub mod HostOperations
