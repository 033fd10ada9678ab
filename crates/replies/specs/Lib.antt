-- Document 01's reply, and its discard. What a reader must believe stands here.
pub mod Reply
pub mod Discard
