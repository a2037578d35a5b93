pub mod Collecting
pub mod Collector
pub mod Keys
pub mod Short
