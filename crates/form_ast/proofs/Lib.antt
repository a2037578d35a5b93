pub mod Building
pub mod Counting
pub mod Lower
pub mod Rows
pub mod Holding
