pub mod Factors
pub mod Lists
pub mod Product
pub mod Recordable
pub mod Several
