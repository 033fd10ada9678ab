-- Laws of rounding.
pub mod Indicator
