-- Laws that belong to no one module. Those of a module stand in its folder, which its node file declares.
pub mod Settled
