pub mod InARow
pub mod Often
pub mod Reaching
pub mod Within
