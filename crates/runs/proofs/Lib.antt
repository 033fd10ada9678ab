-- Laws of runs, over the one account of what an event comes to (Steps).
pub mod Anchors
pub mod Steps
pub mod Healthy
pub mod Touched
pub mod Groups
pub mod Held
pub mod Brings
pub mod Gone
