pub mod Balanced
pub mod Factors
pub mod Joined
pub mod Nested
pub mod Passing
pub mod Pieces
pub mod Repeated
pub mod Signs
