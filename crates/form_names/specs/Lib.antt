pub mod Elements
pub mod Letters
pub mod Names
pub mod Restriction
