pub mod Gathered
pub mod Inputs
pub mod Joining
pub mod Numbered
pub mod Rows
pub mod Shuffled
pub mod Standing
pub mod Tables
