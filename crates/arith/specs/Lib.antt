-- Document 01's packed arithmetic, one module for each of its sections. The ternary sampler is `samples`' and the row codec
-- `rows`'. What a reader must believe stands here and there.
pub mod Packing
pub mod Product
