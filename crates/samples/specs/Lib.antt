-- Document 01's ternary sampler. What a reader must believe stands here.
pub mod Sampler
