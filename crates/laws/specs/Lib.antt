-- Definitions that the contracts of every crate cite, and (Contracts) that a contract allows one result. Laws about them stand
-- in proofs/.
pub mod Uniqueness
pub mod Refusals
pub mod Lists
pub mod Sums
pub mod Search
pub mod Bits
