-- Laws of the pending table.
pub mod Tests
pub mod Lengths
pub mod Slots
pub mod Formed
pub mod Pending
pub mod Answers
