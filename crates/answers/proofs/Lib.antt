-- Laws of all answers alike.
pub mod Apart
pub mod Settled
