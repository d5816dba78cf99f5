pub mod FlagAt
pub mod Status
