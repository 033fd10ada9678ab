-- Laws of the sampler.
pub mod Given
pub mod Shortest
pub mod Answers
