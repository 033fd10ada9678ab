-- What belongs to no one module. The laws of the sampler stand in its folder, which its node file declares.
pub mod Settled
