-- Laws of the row codec: sizes, answers, the record and the row byte by byte, and that the reader gives back what was written.
pub mod Sizes
pub mod Answers
pub mod Marked
pub mod Bytes
pub mod RoundTrip
