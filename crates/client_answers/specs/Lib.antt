-- What each answer of the client tells, one module for each of src/. What a reader must believe stands here.
pub mod Table
pub mod Open
pub mod Reply
pub mod Discard
