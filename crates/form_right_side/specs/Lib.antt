pub mod Marks
pub mod Parting
pub mod Plain
pub mod Refusal
pub mod RightSide
pub mod Walking
