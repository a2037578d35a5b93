pub mod Grammar
pub mod Reading
pub mod Tokens
pub mod Word
