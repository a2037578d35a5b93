pub mod Building
pub mod Factors
