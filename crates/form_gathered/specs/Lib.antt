pub mod Joined
pub mod Tally
