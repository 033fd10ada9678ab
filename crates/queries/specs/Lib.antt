-- Document 01's open. What a reader must believe stands here.
pub mod Open
