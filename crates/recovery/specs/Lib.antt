-- Demand 3 of document 00, over the runs of `runs` and the definitions that the contracts of rows, samples, builder, frames,
-- pending, queries and replies cite.
pub mod Noise
pub mod Store
pub mod Demand
