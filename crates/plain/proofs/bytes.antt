-- Laws of the matrix bytes.
pub mod Words
pub mod RoundTrip
