pub mod Answer
pub mod Call
pub mod Outcome
pub mod Printed
pub mod Stop
pub mod Words
