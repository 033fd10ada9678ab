-- The leaves of document 01, one module for each but `width` and `interval`, whose clauses say their numbers outright. What a
-- reader must believe stands here.
pub mod Limits
pub mod Positions
pub mod Digests
pub mod Rounding
pub mod Words
