-- Laws of the database: its answers and sizes, subtraction modulo 2^b, one key's row written, and that each key's rows and
-- masks give its row.
pub mod Sizes
pub mod Answers
pub mod Less
pub mod Writing
pub mod Law
pub mod Success
