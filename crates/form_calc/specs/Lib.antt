pub mod Answers
pub mod Calculation
pub mod Condition
pub mod Expression
pub mod Number
pub mod Proposition
pub mod Reading
pub mod Stack
