-- Laws about the definitions of specs/. Each stands once, over any element, width or length that it holds for.
pub mod Contracts
pub mod Refusals
pub mod Lists
pub mod Filling
pub mod Splice
pub mod Below
pub mod Sums
pub mod Digits
pub mod Search
pub mod Ranges
pub mod Bits
