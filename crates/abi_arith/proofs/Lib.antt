-- A proof stands in its function's folder; that each contract leaves one result stands here.
pub mod Settled
