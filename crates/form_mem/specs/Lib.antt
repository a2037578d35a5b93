pub mod Calls
pub mod Library
pub mod Sink
pub mod Store
pub mod TextMap
