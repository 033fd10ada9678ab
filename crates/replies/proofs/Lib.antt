-- What belongs to no one module. The laws of reply and discard stand in their folders, which their node files declare.
pub mod Settled
