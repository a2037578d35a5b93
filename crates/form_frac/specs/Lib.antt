pub mod Fraction
pub mod Weight
