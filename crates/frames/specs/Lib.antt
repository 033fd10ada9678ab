-- Document 01's lines. What a reader must believe stands here.
pub mod Lines
