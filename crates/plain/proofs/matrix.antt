-- Laws of the plain product and the transpose.
pub mod Shapes
pub mod Cells
pub mod Associates
