-- What belongs to no one module. The laws of open stand in its folder, which its node file declares.
pub mod Settled
