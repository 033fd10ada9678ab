-- What belongs to no one module. The laws of the lines stand in their folder, which its node file declares.
pub mod Settled
