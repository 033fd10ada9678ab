-- What each answer tells, one module for each of src/. What a reader must believe stands here.
pub mod Refusal
pub mod Matrix
pub mod Bytes
pub mod Packing
pub mod Sampler
pub mod Codec
pub mod Database
pub mod Lines
