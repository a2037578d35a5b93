pub mod Joining
pub mod Pattern
pub mod PatternWalking
pub mod Sets
