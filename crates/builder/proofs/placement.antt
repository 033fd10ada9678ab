-- Laws of the placement check: the marks, and what a placement that passes says.
pub mod Marks
pub mod Rule
