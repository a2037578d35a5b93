pub mod Building
pub mod Conditions
pub mod Joined
pub mod Lawful
pub mod Patterns
pub mod Syntax
pub mod Written
