-- Laws of the packed view.
pub mod Transposed
