pub mod Branches
pub mod Conditions
pub mod Heights
