pub mod Kept
pub mod Lookups
