pub mod Arguments
pub mod Joined
pub mod Printing
pub mod Texts
