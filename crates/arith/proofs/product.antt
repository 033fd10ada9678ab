-- Laws of the packed product.
pub mod Plain
