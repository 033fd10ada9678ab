-- Plain matrices, one module for each of src/. What a reader must believe stands here.
pub mod Matrix
pub mod Bytes
