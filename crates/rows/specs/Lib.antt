-- The row codec of document 01. What a reader must believe stands here.
pub mod Codec
