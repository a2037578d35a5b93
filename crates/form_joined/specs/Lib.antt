pub mod Adding
pub mod Goes
pub mod Powers
pub mod Products
