-- A store with one key, and seven events.
pub mod Example
