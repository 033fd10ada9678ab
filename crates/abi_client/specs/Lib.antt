-- The client's C face. A contract here is the definition of the library below; these say only how three structs are read.
pub mod Open
pub mod Reply
