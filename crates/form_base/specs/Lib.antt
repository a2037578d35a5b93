pub mod Cause
pub mod Condition
pub mod Name
pub mod Settings
pub mod Statements
pub mod Status
