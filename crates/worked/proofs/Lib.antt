-- The worked numbers are as stated.
pub mod Worked
