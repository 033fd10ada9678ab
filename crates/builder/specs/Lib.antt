-- Document 01's builder. What a reader must believe stands here.
pub mod Keys
pub mod Placement
pub mod Database
pub mod Lent
