mod Splitting
pub mod Plain
mod Going
pub mod Searching
