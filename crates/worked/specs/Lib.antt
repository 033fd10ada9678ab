-- Document 01, "Numbers to hold against it".
pub mod Worked
