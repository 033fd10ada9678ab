-- The run is as told, and the demand speaks of it.
pub mod Example
