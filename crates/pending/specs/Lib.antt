-- Document 01's pending table. What a reader must believe stands here.
pub mod Table
