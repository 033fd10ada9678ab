-- Laws of packing: answers, sizes, one slot over any width, rows word by word, and that unpacking gives back what was packed.
pub mod Shapes
pub mod Answers
pub mod Sizes
pub mod Slots
pub mod Chunks
pub mod Rows
pub mod RoundTrip
