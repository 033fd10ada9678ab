-- Laws of the positions.
pub mod Distinct
