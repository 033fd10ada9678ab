-- What belongs to no one module.
pub mod Settled
