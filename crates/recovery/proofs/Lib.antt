-- Demand 3, the laws of a store's arithmetic that it takes, and what holds its definitions to the request (Anchors, Bound). The
-- laws of runs stand in the crate `runs`.
pub mod Anchors
pub mod Noise
pub mod Rounding
pub mod Bound
pub mod Places
pub mod Row
pub mod Errors
pub mod Query
pub mod Line
pub mod Value
pub mod Demand
