-- Laws of words.
pub mod Copied
