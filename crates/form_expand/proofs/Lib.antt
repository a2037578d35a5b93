pub mod Alones
pub mod Behind
pub mod Called
pub mod Draining
pub mod Factored
pub mod Filling
pub mod Inverses
pub mod Leaps
pub mod Leveled
pub mod Levels
pub mod Listed
pub mod Listings
mod LiteralCalls
mod LiteralSums
pub mod Literals
mod LoneFunctions
mod Lones
pub mod Lookups
pub mod Meant
pub mod NumberLists
pub mod NumberSums
pub mod Parenthesized
pub mod Places
pub mod Powered
pub mod Powers
pub mod Raised
pub mod Raising
pub mod ReadFactors
pub mod Recording
pub mod Repeating
pub mod Rows
pub mod Singled
pub mod Streamed
pub mod Taking
pub mod Trees
